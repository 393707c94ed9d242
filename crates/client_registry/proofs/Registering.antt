-- A configuration that is guilty of nothing is a registry.
use Rattle.std.proofs.Common.{◌≡◌, ◌≤◌, ◌<◌, ◌+◌, ◌==◌, ◌||◌, ℕ, suc, Bool, true, false, cond, List, [], ◌∷◌, ◌++◌, length, map, Option, Some, None, is_some, unwrap_or, slice_get, get_or, ◌⊎◌, inl, inr, nat_lt, codes, refl, sym, ap, ◌∙◌, subst, arith}
use Rattle.std.specs.Prelude.{IfSome}
use Rattle.std.specs.List.{AllByRecursion, list_any, position_from}
use Rattle.std.specs.Str.{bytes_eq}
use Rattle.std.proofs.lemmas.Bool.{ltb-false}
use Rattle.std.proofs.lemmas.Bool.Decides.{nat_tests}
use Rattle.std.proofs.lemmas.Option.{slice_get_cases}
use Rattle.toml.specs.Data.{Data}
use Rattle.configuration_rows.specs.declared.no.RegNo.{RegNo}
use Rattle.configuration_rows.specs.declared.no.RegNo.TheVariants as no
use Rattle.client_registry.specs.declared.records.User.{User}
use Rattle.client_registry.specs.declared.records.Client.{Client}
use Rattle.client_registry.specs.declared.records.Party.{Party}
use Rattle.configuration_rows.specs.Refusals.{note_if, each}
use Rattle.sso_base.specs.Texts.{has_text}
use Rattle.client_registry.specs.Records.{no_url, without_slash, client_place, party_of, users_of, clients_of, parties_of}
use Rattle.client_registry.specs.Rules as rule
use Rattle.client_registry.specs.Rules.{records_refusals, subjects_refusals}
use Rattle.configuration_rows.specs.Values.{rows_at, url_at}
use Rattle.configuration_rows.specs.Paths.{path_text}
use Rattle.configuration_rows.specs.declared.row.Row.TheVariants as row
use Rattle.configuration_rows.specs.declared.version.Version.{Version}
use Rattle.configuration_rows.specs.Versions.{version_in}
use Rattle.client_registry.specs.Secrets.{old_in, secrets, has_secret, all_secrets}
use Rattle.client_registry.specs.Configuration.{configuration_of, provider_table, issuer_of, salt_of}
use Rattle.client_registry.specs.Registered.{AreApart, NumbersAreApart, HasNoneOf, AreDisjoint, IsUser, AllHoldClaims, IsIssuerUrl, KeepsSettings, IsRegistry}
use Rattle.registered_url.specs.declared.web_url.WebUrl.{WebUrl}
use Rattle.registered_url.specs.Rule.{url_of}
use Rattle.configuration_rows.specs.Rows.{rows_refusals, host_cookies_in}
use Rattle.client_registry.proofs.SpelledBytes.{hex_is_bytes}
use Rattle.client_registry.proofs.RowFacts.{ProviderKept, provider_kept, ServerKept, servers_kept}
use Rattle.client_registry.proofs.SecretFacts.{IsOther, secrets_list}
use Rattle.client_registry.proofs.PartyFacts.{parties_fit}
use Rattle.client_registry.proofs.SubjectFacts.{rows_of_subjects}
use Rattle.client_registry.proofs.RowRules.{RowsKeep, rows_keep_rules, users_keep, clients_keep, parties_keep, https_at, parties_are_https}
use Rattle.client_registry.proofs.Guiltless.{front_nil, back_nil, unmet, either_false, AllFrom, each_nil, all_weaker, all_rows, Once, Apart, apart}

-- ---- from rows that are apart to lists that are

none_hit : {A T : Type 0} (eq : T → T → Bool) (key : A → T) (t : T) (ys : List A) → AllByRecursion (λ z. (eq t (key z) ≡ false) × Unit {0}) ys → list_any (eq t) (map key ys) ≡ false
none_hit eq key t [] h = refl
none_hit eq key t (y ∷ ys) h = rw h.0.0 (none_hit eq key t ys h.1)

texts_apart : {A : Type 0} (key : A → List ℕ) (xs : List A) → Apart (λ x. key x ∷ []) (λ t x. bytes_eq (key x) t) xs → AreApart (map key xs)
texts_apart key [] h = tt
texts_apart key (y ∷ ys) h = (none_hit bytes_eq key (key y) ys h.0, texts_apart key ys h.1)

numbers_apart : {A : Type 0} (key : A → ℕ) (xs : List A) → Apart (λ x. key x ∷ []) (λ t x. key x == t) xs → NumbersAreApart (map key xs)
numbers_apart key [] h = tt
numbers_apart key (y ∷ ys) h = (none_hit (λ n m. n == m) key (key y) ys h.0, numbers_apart key ys h.1)

all_mapped : {A B : Type 0} (P : B → Type 0) (key : A → B) (xs : List A) → AllByRecursion (λ x. P (key x)) xs → AllByRecursion P (map key xs)
all_mapped P key [] h = tt
all_mapped P key (x ∷ xs) h = (h.0, all_mapped P key xs h.1)

lists_apart : (xs : List Client) → Apart (λ (k : Client). k.redirects) (λ t k. has_text t k.redirects) xs → AreDisjoint (map (λ (k : Client). k.redirects) xs)
lists_apart [] h = tt
lists_apart (y ∷ ys) h = (all_mapped (λ us. HasNoneOf us y.redirects) (λ (k : Client). k.redirects) ys h.0, lists_apart ys h.1)

-- ---- users

users_apart : (users : List User) → each (rule.user_twice users) users ≡ [] → AreApart (map (λ (u : User). u.id) users)
users_apart users h =
    texts_apart (λ (u : User). u.id) users
    (apart (λ (u : User). u.id ∷ []) (λ t u. bytes_eq u.id t) 0 users
    (all_weaker (λ i u. rule.user_twice users i u ≡ []) (Once (λ (u : User). u.id ∷ []) (λ t u. bytes_eq u.id t) users 0) 0 users
    (λ i u le e. (unmet (rule.is_again i (rule.user_place u.id users)) (no.Twice u.id) e, tt))
    (each_nil (rule.user_twice users) 0 users h)))

-- ---- clients

redirects_once : (clients : List Client) (i : ℕ) (uris : List (List ℕ)) → rule.redirects_twice clients i uris ≡ [] → AllByRecursion (λ t. rule.is_again i (rule.redirect_place t clients) ≡ false) uris
redirects_once clients i [] h = tt
redirects_once clients i (uri ∷ uris) h =
    let first : List RegNo = note_if (rule.is_again i (rule.redirect_place uri clients)) (no.Twice uri) in (
      unmet (rule.is_again i (rule.redirect_place uri clients)) (no.Twice uri) (front_nil first (rule.redirects_twice clients i uris) h),
      redirects_once clients i uris (back_nil first (rule.redirects_twice clients i uris) h),
    )

-- what one client's row says, where nothing is noted of it
record ClientOnce (issuer : List ℕ) (clients : List Client) (i : ℕ) (k : Client) : Type 0 where
  pub id : rule.is_again i (client_place k.id clients) ≡ false
  pub other_issuer : bytes_eq k.id issuer ≡ false
  pub secret : rule.is_again i (rule.secret_place k.secret clients) ≡ false
  pub old_secret : IfSome k.old_secret (λ old. rule.is_again i (rule.secret_place old clients) ≡ false)
  pub other_secret : IsOther k.secret k.old_secret
  pub redirects : AllByRecursion (λ t. rule.is_again i (rule.redirect_place t clients) ≡ false) k.redirects

old_once : (clients : List Client) (i : ℕ) (k : Client) (o : Option (List ℕ)) → rule.old_twice clients i k o ≡ [] → IfSome o (λ old. rule.is_again i (rule.secret_place old clients) ≡ false) × IsOther k.secret o
old_once clients i k None h = (tt, tt)
old_once clients i k (Some old) h = either_false (rule.is_again i (rule.secret_place old clients)) (bytes_eq k.secret old) (unmet _ (no.Twice k.id) h)

client_once : (issuer : List ℕ) (clients : List Client) (i : ℕ) (k : Client) → rule.client_twice issuer clients i k ≡ [] → ClientOnce issuer clients i k
client_once issuer clients i k h =
    let a : List RegNo = note_if (rule.is_again i (client_place k.id clients) || bytes_eq k.id issuer) (no.Twice k.id) in
    let b : List RegNo = note_if (rule.is_again i (rule.secret_place k.secret clients)) (no.Twice k.id) in
    let o : List RegNo = rule.old_twice clients i k k.old_secret in
    let c : List RegNo = rule.redirects_twice clients i k.redirects in
    let three : (a ++ b) ++ o ≡ [] = front_nil ((a ++ b) ++ o) c h in
    let first : a ++ b ≡ [] = front_nil (a ++ b) o three in
    let old = old_once clients i k k.old_secret (back_nil (a ++ b) o three) in
    let ids : (rule.is_again i (client_place k.id clients) ≡ false) × (bytes_eq k.id issuer ≡ false) =
    either_false (rule.is_again i (client_place k.id clients)) (bytes_eq k.id issuer) (unmet _ (no.Twice k.id) (front_nil a b first)) in
    record {
      id = ids.0;
      other_issuer = ids.1;
      secret = unmet _ (no.Twice k.id) (back_nil a b first);
      old_secret = old.0;
      other_secret = old.1;
      redirects = redirects_once clients i k.redirects (back_nil ((a ++ b) ++ o) c h);
    }

clients_once : (issuer : List ℕ) (clients : List Client) → each (rule.client_twice issuer clients) clients ≡ [] → AllFrom (ClientOnce issuer clients) 0 clients
clients_once issuer clients h =
    all_weaker (λ i k. rule.client_twice issuer clients i k ≡ []) (ClientOnce issuer clients) 0 clients (λ i k le e. client_once issuer clients i k e) (each_nil (rule.client_twice issuer clients) 0 clients h)

client_ids_apart : (issuer : List ℕ) (clients : List Client) → AllFrom (ClientOnce issuer clients) 0 clients → AreApart (map (λ (k : Client). k.id) clients)
client_ids_apart issuer clients h =
    texts_apart (λ (k : Client). k.id) clients
    (apart (λ (k : Client). k.id ∷ []) (λ t k. bytes_eq k.id t) 0 clients
    (all_weaker (ClientOnce issuer clients) (Once (λ (k : Client). k.id ∷ []) (λ t k. bytes_eq k.id t) clients 0) 0 clients (λ i k le o. (o.id, tt)) h))

-- each secret of a client is first the client's
secrets_once : (clients : List Client) (i : ℕ) (secret : List ℕ) (o : Option (List ℕ)) → rule.is_again i (rule.secret_place secret clients) ≡ false → IfSome o (λ old. rule.is_again i (rule.secret_place old clients) ≡ false)
    → AllByRecursion (λ t. rule.is_again i (rule.secret_place t clients) ≡ false) (secret ∷ old_in o)
secrets_once clients i secret None h old = (h, tt)
secrets_once clients i secret (Some t) h old = (h, (old, tt))

secrets_apart : (issuer : List ℕ) (clients : List Client) → AllFrom (ClientOnce issuer clients) 0 clients → AreApart (all_secrets clients)
secrets_apart issuer clients h =
    secrets_list clients
    (apart secrets has_secret 0 clients
    (all_weaker (ClientOnce issuer clients) (Once secrets has_secret clients 0) 0 clients (λ i k le o. secrets_once clients i k.secret k.old_secret o.secret o.old_secret) h))
    (all_rows (λ (k : Client). IsOther k.secret k.old_secret) 0 clients (all_weaker (ClientOnce issuer clients) (λ i k. IsOther k.secret k.old_secret) 0 clients (λ i k le o. o.other_secret) h))

redirects_apart : (issuer : List ℕ) (clients : List Client) → AllFrom (ClientOnce issuer clients) 0 clients → AreDisjoint (map (λ (k : Client). k.redirects) clients)
redirects_apart issuer clients h =
    lists_apart clients
    (apart (λ (k : Client). k.redirects) (λ t k. has_text t k.redirects) 0 clients
    (all_weaker (ClientOnce issuer clients) (Once (λ (k : Client). k.redirects) (λ t k. has_text t k.redirects) clients 0) 0 clients (λ i k le o. o.redirects) h))

issuer_apart : (issuer : List ℕ) (clients : List Client) → AllFrom (ClientOnce issuer clients) 0 clients → AllByRecursion (λ (k : Client). bytes_eq k.id issuer ≡ false) clients
issuer_apart issuer clients h = all_rows (λ k. bytes_eq k.id issuer ≡ false) 0 clients (all_weaker (ClientOnce issuer clients) (λ i k. bytes_eq k.id issuer ≡ false) 0 clients (λ i k le o. o.other_issuer) h)

-- ---- parties

found_within : (b : Bool) (n m : ℕ) (o : Option ℕ) → n ≤ m → unwrap_or o m ≤ m → unwrap_or (cond b (Some n) o) m ≤ m
found_within true n m o le h = le
found_within false n m o le h = h

place_within : {A : Type 0} (f : A → Bool) (n m : ℕ) (xs : List A) → n + length xs ≤ m → unwrap_or (position_from f n xs) m ≤ m
place_within f n m [] h = omega arith
place_within f n m (x ∷ xs) h = found_within (f x) n m (position_from f (n + 1) xs) (omega (arith, h)) (place_within f (n + 1) m xs (omega (arith, h)))

party_within : (v : Version) (clients : List Client) (d : Data) → (party_of v clients d).client ≤ length clients
unfolding party_of
party_within v clients d = place_within _ 0 (length clients) clients (omega arith)

every : {A : Type 0} (P : A → Type 0) (xs : List A) → ((x : A) → P x) → AllByRecursion P xs
every P [] f = tt
every P (x ∷ xs) f = (f x, every P xs f)

parties_within : (v : Version) (clients : List Client) (rows : List Data) → AllByRecursion (λ (p : Party). p.client ≤ length clients) (map (party_of v clients) rows)
parties_within v clients rows = all_mapped (λ (p : Party). p.client ≤ length clients) (party_of v clients) rows (every _ rows (party_within v clients))

all_both : {A : Type 0} (P Q R : A → Type 0) (xs : List A) → ((x : A) → P x → Q x → R x) → AllByRecursion P xs → AllByRecursion Q xs → AllByRecursion R xs
all_both P Q R [] f p q = tt
all_both P Q R (x ∷ xs) f p q = (f x p.0 q.0, all_both P Q R xs f p.1 q.1)

from_both : {A : Type 0} (P : ℕ → A → Type 0) (Q : A → Type 0) (R : ℕ → A → Type 0) (n : ℕ) (xs : List A) → ((i : ℕ) (x : A) → P i x → Q x → R i x) → AllFrom P n xs → AllByRecursion Q xs → AllFrom R n xs
from_both P Q R n [] f p q = tt
from_both P Q R n (x ∷ xs) f p q = (f n x p.0 q.0, from_both P Q R (n + 1) xs f p.1 q.1)

below : (m n : ℕ) → m ≤ n → (m == n) ≡ false → m < n
below m n le h = grind (arith, nat_tests, le, h)

clients_known : (clients : List Client) (parties : List Party) → AllByRecursion (λ (p : Party). p.client ≤ length clients) parties → each (rule.unknown_client (length clients)) parties ≡ [] → AllByRecursion (λ (p : Party). p.client < length clients) parties
clients_known clients parties within h =
    all_both (λ (p : Party). p.client ≤ length clients) (λ (p : Party). (p.client == length clients) ≡ false) (λ (p : Party). p.client < length clients) parties
    (λ p le e. below p.client (length clients) le e) within
    (all_rows (λ (p : Party). (p.client == length clients) ≡ false) 0 parties
    (all_weaker (λ i p. rule.unknown_client (length clients) i p ≡ []) (λ i p. (p.client == length clients) ≡ false) 0 parties (λ i p le e. unmet (p.client == length clients) (no.UnknownClient p.name) e)
    (each_nil (rule.unknown_client (length clients)) 0 parties h)))

used_at : (parties : List Party) (i n : ℕ) (o : Option Client) (k : Client) → o ≡ Some k → rule.use_twice parties i n o ≡ [] → rule.is_again i (rule.use_place n parties) ≡ false
used_at parties i n o k is h =
    let noted : rule.use_twice parties i n (Some k) ≡ [] = subst (λ q. rule.use_twice parties i n q ≡ []) is h in
    unmet (rule.is_again i (rule.use_place n parties)) (no.Twice k.id) noted

there_at : {A : Type 0} (xs : List A) (i : ℕ) → i < length xs → ((x : A) × (i < length xs) × (slice_get xs i ≡ Some x) × (get_or xs i x ≡ x)) ⊎ ((length xs ≤ i) × (slice_get xs i ≡ None)) → (x : A) × (slice_get xs i ≡ Some x)
there_at xs i less (inl h) = (h.0, h.2)
there_at xs i less (inr h) = absurd (omega (arith, less, h.0))

record PartyOnce (parties : List Party) (i : ℕ) (p : Party) : Type 0 where
  pub name : rule.is_again i (rule.party_place p.name parties) ≡ false
  pub not_op : bytes_eq p.name (codes "op") ≡ false
  pub taken : rule.is_again i (rule.use_place p.client parties) ≡ false

party_once : (clients : List Client) (parties : List Party) (i : ℕ) (p : Party) → rule.party_twice clients parties i p ≡ [] → p.client < length clients → PartyOnce parties i p
party_once clients parties i p h less =
    let a : List RegNo = note_if (rule.is_again i (rule.party_place p.name parties) || bytes_eq p.name (codes "op")) (no.Twice p.name) in
    let b : List RegNo = rule.use_twice parties i p.client (slice_get clients p.client) in
    let names : (rule.is_again i (rule.party_place p.name parties) ≡ false) × (bytes_eq p.name (codes "op") ≡ false) =
    either_false (rule.is_again i (rule.party_place p.name parties)) (bytes_eq p.name (codes "op")) (unmet _ (no.Twice p.name) (front_nil a b h)) in
    let found : (k : Client) × (slice_get clients p.client ≡ Some k) = there_at clients p.client less (slice_get_cases clients p.client).1 in
    record { name = names.0; not_op = names.1; taken = used_at parties i p.client (slice_get clients p.client) found.0 found.1 (back_nil a b h) }

parties_once : (clients : List Client) (parties : List Party) → each (rule.party_twice clients parties) parties ≡ [] → AllByRecursion (λ (p : Party). p.client < length clients) parties → AllFrom (PartyOnce parties) 0 parties
parties_once clients parties h known =
    from_both (λ i p. rule.party_twice clients parties i p ≡ []) (λ (p : Party). p.client < length clients) (PartyOnce parties) 0 parties (λ i p e less. party_once clients parties i p e less)
    (each_nil (rule.party_twice clients parties) 0 parties h) known

party_names_apart : (parties : List Party) → AllFrom (PartyOnce parties) 0 parties → AreApart (map (λ (p : Party). p.name) parties)
party_names_apart parties h =
    texts_apart (λ (p : Party). p.name) parties
    (apart (λ (p : Party). p.name ∷ []) (λ t p. bytes_eq p.name t) 0 parties
    (all_weaker (PartyOnce parties) (Once (λ (p : Party). p.name ∷ []) (λ t p. bytes_eq p.name t) parties 0) 0 parties (λ i p le o. (o.name, tt)) h))

parties_not_op : (parties all : List Party) → AllFrom (PartyOnce all) 0 parties → AllByRecursion (λ (p : Party). bytes_eq p.name (codes "op") ≡ false) parties
parties_not_op parties all h = all_rows (λ (p : Party). bytes_eq p.name (codes "op") ≡ false) 0 parties (all_weaker (PartyOnce all) (λ i p. bytes_eq p.name (codes "op") ≡ false) 0 parties (λ i p le o. o.not_op) h)

uses_apart : (parties : List Party) → AllFrom (PartyOnce parties) 0 parties → NumbersAreApart (map (λ (p : Party). p.client) parties)
uses_apart parties h =
    numbers_apart (λ (p : Party). p.client) parties
    (apart (λ (p : Party). p.client ∷ []) (λ n p. p.client == n) 0 parties
    (all_weaker (PartyOnce parties) (Once (λ (p : Party). p.client ∷ []) (λ n p. p.client == n) parties 0) 0 parties (λ i p le o. (o.taken, tt)) h))

-- ---- subjects

same_map : {A : Type 0} (xs : List A) → map (λ x. x) xs ≡ xs
same_map [] = refl
same_map (x ∷ xs) = ap (λ ys. x ∷ ys) (same_map xs)

subjects_apart : (k : Client) (users : List User) (subjects : List (List ℕ)) → rule.clashes k users subjects ≡ [] → AreApart subjects
subjects_apart k users subjects h =
    subst AreApart (same_map subjects)
    (texts_apart (λ t. t) subjects
    (apart (λ t. t ∷ []) (λ t u. bytes_eq u t) 0 subjects
    (all_weaker (λ n t. rule.clash_at k users n (rule.text_place t subjects) ≡ []) (Once (λ t. t ∷ []) (λ t u. bytes_eq u t) subjects 0) 0 subjects
    (λ n t le e. (unmet (rule.is_again n (rule.text_place t subjects)) _ e, tt))
    (each_nil (λ n t. rule.clash_at k users n (rule.text_place t subjects)) 0 subjects h))))

length_mapped : {A B : Type 0} (f : A → B) (xs : List A) → length (map f xs) ≡ length xs
length_mapped f [] = refl
length_mapped f (x ∷ xs) = ap suc (length_mapped f xs)

rows_apart : (salt : List ℕ) (users : List User) (clients : List Client) → each (λ n k. rule.clashes k users (rule.subjects_at salt users k)) clients ≡ []
    → AllByRecursion (λ row. (length row ≡ length users) × AreApart row) (map (rule.subjects_at salt users) clients)
rows_apart salt users clients h =
    all_mapped (λ row. (length row ≡ length users) × AreApart row) (rule.subjects_at salt users) clients
    (all_rows (λ k. (length (rule.subjects_at salt users k) ≡ length users) × AreApart (rule.subjects_at salt users k)) 0 clients
    (all_weaker (λ n k. rule.clashes k users (rule.subjects_at salt users k) ≡ []) (λ n k. (length (rule.subjects_at salt users k) ≡ length users) × AreApart (rule.subjects_at salt users k)) 0 clients
    (λ n k le e. (length_mapped (rule.subject_of salt k) users, subjects_apart k users (rule.subjects_at salt users k) e))
    (each_nil (λ n k. rule.clashes k users (rule.subjects_at salt users k)) 0 clients h)))

-- ---- all together

-- where no row stands at the place m, there are at most m rows
rows_before : {A : Type 0} (m n : ℕ) (xs : List A) → n ≤ m → AllFrom (λ i x. (i == m) ≡ false) n xs → n + length xs ≤ m
rows_before m n [] le h = omega (arith, le)
rows_before m n (x ∷ xs) le h =
    let less : n < m = below n m le h.0 in
    let rest : n + 1 + length xs ≤ m = rows_before m (n + 1) xs (omega (arith, less)) h.1 in
    omega (arith, rest)

at_most_512 : (users : List User) → each rule.user_size users ≡ [] → length users ≤ 512
at_most_512 users h =
    let most : 0 + length users ≤ 512 =
    rows_before 512 0 users (omega arith)
    (all_weaker (λ i u. rule.user_size i u ≡ []) (λ i u. (i == 512) ≡ false) 0 users
    (λ i u le e. unmet (i == 512) (no.TooMany (codes "user")) (front_nil (note_if (i == 512) (no.TooMany (codes "user"))) (note_if (nat_lt 2048 (length u.claims)) (no.TooMany (codes "claims"))) e))
    (each_nil rule.user_size 0 users h)) in
    omega (arith, most)

record Guiltless (issuer : List ℕ) (users : List User) (clients : List Client) (parties : List Party) : Type 0 where
  pub user_twice : each (rule.user_twice users) users ≡ []
  pub client_twice : each (rule.client_twice issuer clients) clients ≡ []
  pub party_twice : each (rule.party_twice clients parties) parties ≡ []
  pub few_users : length users ≤ 512
  pub few_clients : length clients ≤ 128
  pub few_parties : length parties ≤ 64
  pub unknown : each (rule.unknown_client (length clients)) parties ≡ []
  pub short_secrets : each rule.short_secret clients ≡ []
  pub user_sizes : each rule.user_size users ≡ []
  pub mixed_hosts : each rule.mixed_hosts clients ≡ []

guiltless : (issuer : List ℕ) (users : List User) (clients : List Client) (parties : List Party) → rule.records_refusals issuer users clients parties ≡ [] → Guiltless issuer users clients parties
unfolding records_refusals
guiltless issuer users clients parties h =
    let n1 : List RegNo = each (rule.user_twice users) users in
    let n2 : List RegNo = each (rule.client_twice issuer clients) clients in
    let n3 : List RegNo = each (rule.party_twice clients parties) parties in
    let n4 : List RegNo = each rule.short_secret clients in
    let n5 : List RegNo = each rule.user_size users in
    let n6 : List RegNo = note_if (nat_lt 128 (length clients)) (no.TooMany (codes "client")) in
    let n7 : List RegNo = note_if (nat_lt 64 (length parties)) (no.TooMany (codes "party")) in
    let n8 : List RegNo = each rule.mixed_hosts clients in
    let n9 : List RegNo = each (rule.unknown_client (length clients)) parties in
    let m2 : List RegNo = n1 ++ n2 in
    let m3 : List RegNo = m2 ++ n3 in
    let m4 : List RegNo = m3 ++ n4 in
    let m5 : List RegNo = m4 ++ n5 in
    let m6 : List RegNo = m5 ++ n6 in
    let m7 : List RegNo = m6 ++ n7 in
    let m8 : List RegNo = m7 ++ n8 in
    let h8 : m8 ≡ [] = front_nil m8 n9 h in
    let h7 : m7 ≡ [] = front_nil m7 n8 h8 in
    let h6 : m6 ≡ [] = front_nil m6 n7 h7 in
    let h5 : m5 ≡ [] = front_nil m5 n6 h6 in
    let h4 : m4 ≡ [] = front_nil m4 n5 h5 in
    let h3 : m3 ≡ [] = front_nil m3 n4 h4 in
    let h2 : m2 ≡ [] = front_nil m2 n3 h3 in
    record {
      user_twice = front_nil n1 n2 h2;
      client_twice = back_nil n1 n2 h2;
      party_twice = back_nil m2 n3 h3;
      few_users = at_most_512 users (back_nil m4 n5 h5);
      few_clients = ltb-false 128 (length clients) (unmet _ _ (back_nil m5 n6 h6));
      few_parties = ltb-false 64 (length parties) (unmet _ _ (back_nil m6 n7 h7));
      unknown = back_nil m8 n9 h;
      short_secrets = back_nil m3 n4 h4;
      user_sizes = back_nil m4 n5 h5;
      mixed_hosts = back_nil m7 n8 h8;
    }

-- what is kept of the issuer is of its URL
issuer_url : (root : Data) → (i : ProviderKept (provider_table root)) → IsIssuerUrl (configuration_of root) i.url
unfolding configuration_of
issuer_url root i = record {
  query = i.query;
  prefix = ap (λ (o : Option WebUrl). without_slash (unwrap_or o no_url).path) i.there;
  secure = ap (λ (o : Option WebUrl). (unwrap_or o no_url).secure) i.there;
}

-- the settings are within their bounds
settings_kept : (root : Data) → RowsKeep root → ProviderKept (provider_table root) → KeepsSettings (configuration_of root)
unfolding configuration_of
settings_kept root w i =
    let v : Version = version_in root in
    let t : Data = provider_table root in
    let s : ServerKept v t = servers_kept v t w.provider in
    record {
      issuer_https = https_at (host_cookies_in root) (no.WrongKind (path_text row.Provider (codes "cookies"))) (url_at (codes "issuer") t) s.issuer (ap is_some i.there);
      parties_https = parties_are_https v t (clients_of root) (rows_at (codes "client") root) (rows_at (codes "party") root) w.parties;
      workers = s.workers;
    }

if_url : (P : WebUrl → Type 0) (o : Option WebUrl) (u : WebUrl) → o ≡ Some u → P u → IfSome o P
if_url P o u is h = subst (λ q. IfSome q P) (sym is) h

pub registered : (root : Data) → AllHoldClaims (users_of root) → rows_refusals root ≡ [] → rule.records_refusals (issuer_of root) (users_of root) (clients_of root) (parties_of root) ≡ [] → rule.subjects_refusals (salt_of root) (users_of root) (clients_of root) ≡ [] → IsRegistry (configuration_of root)
unfolding configuration_of subjects_refusals
registered root f r h s =
    let w : RowsKeep root = rows_keep_rules root r in
    let i : ProviderKept (provider_table root) = provider_kept (version_in root) (provider_table root) w.provider in
    let g : Guiltless (issuer_of root) (users_of root) (clients_of root) (parties_of root) = guiltless (issuer_of root) (users_of root) (clients_of root) (parties_of root) h in
    let us : AllByRecursion IsUser (users_of root) = users_keep (rows_at (codes "user") root) w.users g.user_sizes in
    let cs : AllFrom (ClientOnce (issuer_of root) (clients_of root)) 0 (clients_of root) = clients_once (issuer_of root) (clients_of root) g.client_twice in
    let known : AllByRecursion (λ (p : Party). p.client < length (clients_of root)) (parties_of root) = clients_known (clients_of root) (parties_of root) (parties_within (version_in root) (clients_of root) (rows_at (codes "party") root)) g.unknown in
    let ps : AllFrom (PartyOnce (parties_of root)) 0 (parties_of root) = parties_once (clients_of root) (parties_of root) g.party_twice known in
    record {
      users = g.few_users;
      clients = g.few_clients;
      parties = g.few_parties;
      user_ids = users_apart (users_of root) g.user_twice;
      client_ids = client_ids_apart (issuer_of root) (clients_of root) cs;
      secrets = secrets_apart (issuer_of root) (clients_of root) cs;
      redirects = redirects_apart (issuer_of root) (clients_of root) cs;
      issuer_apart = issuer_apart (issuer_of root) (clients_of root) cs;
      party_names = party_names_apart (parties_of root) ps;
      not_op = parties_not_op (parties_of root) (parties_of root) ps;
      known = known;
      fitting = parties_fit (version_in root) (host_cookies_in root) (rows_at (codes "party") root) (rows_at (codes "client") root) w.clients w.parties known;
      one_party = uses_apart (parties_of root) ps;
      rows = length_mapped (rule.subjects_at (salt_of root) (users_of root)) (clients_of root);
      subjects = rows_apart (salt_of root) (users_of root) (clients_of root) s;
      subject_rules = rows_of_subjects (salt_of root) (users_of root) (clients_of root) us;
      salt = salt_of root;
      salted = record { within = i.salt; bytes = hex_is_bytes (codes "salt") (provider_table root); made = refl };
      issuer = ap is_some i.issuer;
      issuer_url = if_url (IsIssuerUrl (configuration_of root)) (url_of (issuer_of root)) i.url i.issuer (issuer_url root i);
      short_issuer = i.short;
      provider = refl;
      listen = i.listen;
      user_claims = f;
      user_rules = us;
      client_rules = clients_keep (version_in root) (rows_at (codes "party") root) (rows_at (codes "client") root) w.clients g.short_secrets g.mixed_hosts;
      party_rules = parties_keep (version_in root) (host_cookies_in root) (clients_of root) (rows_at (codes "client") root) (rows_at (codes "party") root) w.parties;
      settings = settings_kept root w i;
    }

pub registered_from : (root : Data) (issuer salt : List ℕ) (users : List User) (clients : List Client) (parties : List Party) → issuer ≡ issuer_of root → salt ≡ salt_of root → users ≡ users_of root → clients ≡ clients_of root → parties ≡ parties_of root
    → AllHoldClaims users → rows_refusals root ≡ [] → rule.records_refusals issuer users clients parties ≡ [] → rule.subjects_refusals salt users clients ≡ [] → IsRegistry (configuration_of root)
registered_from root issuer salt users clients parties i s u k p f r h c =
    let rules : rule.records_refusals (issuer_of root) (users_of root) (clients_of root) (parties_of root) ≡ rule.records_refusals issuer users clients parties = cc in
    let subjects : rule.subjects_refusals (salt_of root) (users_of root) (clients_of root) ≡ rule.subjects_refusals salt users clients = cc in
    registered root (subst AllHoldClaims u f) r (rules ∙ h) (subjects ∙ c)
