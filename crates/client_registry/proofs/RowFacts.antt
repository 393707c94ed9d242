-- Rows that are guilty of nothing keep their rules.
use Rattle.std.proofs.Common.{◌≡◌, ◌≤◌, ◌&&◌, not, ℕ, Bool, true, false, cond, List, [], ◌∷◌, ◌++◌, length, nat_le, codes, Option, Some, None, is_some, option_and_then, unwrap_or, ◌⊎◌, inl, inr, refl, sym, ap, ◌∙◌, subst, true≢false}
use Rattle.std.proofs.lemmas.Bool.{leb-true}
use Rattle.toml.specs.Data.{Data, get, as_str}
use Rattle.registered_url.specs.declared.web_url.WebUrl.{WebUrl}
use Rattle.registered_url.specs.Rule.{url_of}
use Rattle.configuration_rows.specs.declared.no.RegNo.{RegNo}
use Rattle.configuration_rows.specs.declared.row.Row.{Row}
use Rattle.configuration_rows.specs.declared.row.Row.TheVariants as row
use Rattle.configuration_rows.specs.declared.kind.Kind.{Kind}
use Rattle.configuration_rows.specs.declared.kind.Kind.TheVariants as kind
use Rattle.configuration_rows.specs.declared.kind.TextRule.{TextRule}
use Rattle.configuration_rows.specs.declared.kind.TextRule.TheVariants as text
use Rattle.configuration_rows.specs.declared.kind.Alphabet.TheVariants.{Visible}
use Rattle.configuration_rows.specs.declared.kind.Breach.{Breach}
use Rattle.configuration_rows.specs.declared.kind.Breach.TheVariants.{WrongKind, BadUrl}
use Rattle.configuration_rows.specs.declared.version.Version.{Version}
use Rattle.configuration_rows.specs.declared.version.Version.TheVariants as version
use Rattle.configuration_rows.specs.Paths.{path_text}
use Rattle.configuration_rows.specs.Values.{as_natural, as_texts, hex_bytes, text_at, text_or, natural_at, hex_at, texts_at, url_at}
use Rattle.configuration_rows.specs.Kinds.{passes, unless, is_within, is_name, text_keeps, breach, are_urls, urls_breach, url_breach, issuer_breach, issuer_text_breach}
use Rattle.configuration_rows.specs.Rows as keys
use Rattle.client_registry.specs.Records.{workers_in, workers_of}
use Rattle.client_registry.proofs.Guiltless.{front_nil, back_nil}

no_cons : {A B : Type 0} (x : A) (xs : List A) → x ∷ xs ≡ [] → B
no_cons x xs h = absurd (cc)

some_not_none : {A B : Type 0} (a : A) → Some a ≡ None → B
some_not_none a h = absurd (cc)

unbreached : (path : List ℕ) (o : Option Breach) → keys.breached path o ≡ [] → o ≡ None
unbreached path None h = refl
unbreached path (Some WrongKind) h = no_cons _ _ h
unbreached path (Some BadUrl) h = no_cons _ _ h

met : (b : Bool) (why : Breach) → unless b why ≡ None → b ≡ true
met true why h = refl
met false why h = some_not_none why h

-- what passes a test is there
pub record Passing {A : Type 0} (test : A → Bool) (o : Option A) : Type 0 where
  pub value : A
  pub there : o ≡ Some value
  pub passed : test value ≡ true

passing : {A : Type 0} (test : A → Bool) (o : Option A) → passes test o ≡ true → Passing test o
passing test None h = absurd (true≢false (sym h))
passing test (Some a) h = record { value = a; there = refl; passed = h }

-- a value stands at the key, and breaks no rule
pub record Kept (k : Kind) (o : Option Data) : Type 0 where
  pub value : Data
  pub there : o ≡ Some value
  pub kept : breach k value ≡ None

kept_at : (path : List ℕ) (k : Kind) (o : Option Data) → keys.required_value path k o ≡ [] → Kept k o
kept_at path k None h = no_cons _ _ h
kept_at path k (Some d) h = record { value = d; there = refl; kept = unbreached path (breach k d) h }

-- the text at a key that is needed keeps its rule
pub record KeptText (rule : TextRule) (key : List ℕ) (d : Data) : Type 0 where
  pub value : List ℕ
  pub there : text_at key d ≡ Some value
  pub kept : text_keeps rule value ≡ true

pub kept_text : (r : Row) (d : Data) (key : List ℕ) (rule : TextRule) → keys.required r d key (kind.Text rule) ≡ [] → KeptText rule key d
kept_text r d key rule h =
    let k : Kept (kind.Text rule) (get key d) = kept_at (path_text r key) (kind.Text rule) (get key d) h in
    let p : Passing (text_keeps rule) (as_str k.value) = passing (text_keeps rule) (as_str k.value) (met (passes (text_keeps rule) (as_str k.value)) WrongKind k.kept) in
    record { value = p.value; there = ap (option_and_then as_str) k.there ∙ p.there; kept = p.passed }

pub or_else : {A : Type 0} (o : Option A) (a b : A) → o ≡ Some a → unwrap_or o b ≡ a
or_else o a b h = ap (λ q. unwrap_or q b) h

-- a text that is needed keeps its rule, also as it stands in a record
pub text_kept : (r : Row) (d : Data) (key : List ℕ) (rule : TextRule) → keys.required r d key (kind.Text rule) ≡ [] → text_keeps rule (text_or key [] d) ≡ true
text_kept r d key rule h =
    let k : KeptText rule key d = kept_text r d key rule h in
    ap (text_keeps rule) (or_else (text_at key d) k.value [] k.there) ∙ k.kept

-- so do the bytes that it spells
pub hex_kept : (r : Row) (d : Data) (key : List ℕ) (least most : ℕ) → keys.required r d key (kind.Text (text.Hex least most)) ≡ [] → is_within least most (length (hex_at key d)) ≡ true
hex_kept r d key least most h =
    let k : KeptText (text.Hex least most) key d = kept_text r d key (text.Hex least most) h in
    let p : Passing (λ bs. is_within least most (length bs)) (hex_bytes k.value) = passing (λ bs. is_within least most (length bs)) (hex_bytes k.value) k.kept in
    let bytes : hex_at key d ≡ p.value = or_else (option_and_then hex_bytes (text_at key d)) p.value [] (ap (option_and_then hex_bytes) k.there ∙ p.there) in
    ap (λ bs. is_within least most (length bs)) bytes ∙ p.passed

-- a number that is needed is within its bounds
-- a number that breaks no rule
pub number_in : (least most : ℕ) (d : Data) → breach (kind.Number least most) d ≡ None → Passing (is_within least most) (as_natural d)
number_in least most d h = passing (is_within least most) (as_natural d) (met (passes (is_within least most) (as_natural d)) WrongKind h)

pub number_kept : (r : Row) (d : Data) (key : List ℕ) (least most : ℕ) → keys.required r d key (kind.Number least most) ≡ [] → Passing (is_within least most) (natural_at key d)
number_kept r d key least most h =
    let k : Kept (kind.Number least most) (get key d) = kept_at (path_text r key) (kind.Number least most) (get key d) h in
    let p : Passing (is_within least most) (as_natural k.value) = number_in least most k.value k.kept in
    record { value = p.value; there = ap (option_and_then as_natural) k.there ∙ p.there; passed = p.passed }

-- the texts of the redirection URIs
pub record KeptUrls (o : Option (List (List ℕ))) : Type 0 where
  pub value : List (List ℕ)
  pub there : o ≡ Some value
  pub within : is_within 1 16 (length value) ≡ true
  pub urls : are_urls value ≡ true

urls_in : (b : Bool) (ts : List (List ℕ)) → is_within 1 16 (length ts) ≡ b → cond b (unless (are_urls ts) BadUrl) (Some WrongKind) ≡ None → KeptUrls (Some ts)
urls_in true ts is h = record { value = ts; there = refl; within = is; urls = met (are_urls ts) BadUrl h }
urls_in false ts is h = some_not_none WrongKind h

urls_there : (o : Option (List (List ℕ))) → urls_breach o ≡ None → KeptUrls o
urls_there None h = some_not_none WrongKind h
urls_there (Some ts) h = urls_in (is_within 1 16 (length ts)) ts refl h

pub urls_kept : (r : Row) (d : Data) (key : List ℕ) → keys.required r d key kind.Urls ≡ [] → (is_within 1 16 (length (texts_at key d)) ≡ true) × (are_urls (texts_at key d) ≡ true)
urls_kept r d key h =
    let k : Kept kind.Urls (get key d) = kept_at (path_text r key) kind.Urls (get key d) h in
    let u : KeptUrls (as_texts k.value) = urls_there (as_texts k.value) k.kept in
    let same : texts_at key d ≡ u.value = or_else (option_and_then as_texts (get key d)) u.value [] (ap (option_and_then as_texts) k.there ∙ u.there) in
    (ap (λ ts. is_within 1 16 (length ts)) same ∙ u.within, ap are_urls same ∙ u.urls)

-- a text that is a URL
pub record KeptUrl (o : Option (List ℕ)) : Type 0 where
  pub value : List ℕ
  pub there : o ≡ Some value
  pub url : is_some (url_of value) ≡ true

pub url_there : (o : Option (List ℕ)) → url_breach o ≡ None → KeptUrl o
url_there None h = some_not_none WrongKind h
url_there (Some t) h = record { value = t; there = refl; url = met (is_some (url_of t)) BadUrl h }

pub some_of : {A : Type 0} (o : Option A) (b : A) → is_some o ≡ true → o ≡ Some (unwrap_or o b)
some_of None b h = absurd (true≢false (sym h))
some_of (Some a) b h = refl

pub url_kept : (r : Row) (d : Data) (key : List ℕ) (other : WebUrl) → keys.required r d key kind.Url ≡ [] → url_of (text_or key [] d) ≡ Some (unwrap_or (url_at key d) other)
url_kept r d key other h =
    let k : Kept kind.Url (get key d) = kept_at (path_text r key) kind.Url (get key d) h in
    let u : KeptUrl (as_str k.value) = url_there (as_str k.value) k.kept in
    let there : text_at key d ≡ Some u.value = ap (option_and_then as_str) k.there ∙ u.there in
    let found : url_at key d ≡ url_of u.value = ap (option_and_then url_of) there in
    ap url_of (or_else (text_at key d) u.value [] there) ∙ some_of (url_of u.value) other u.url ∙ ap (λ o. Some (unwrap_or o other)) (sym found)

-- the text at a key, and the URL that it is
pub record UrlAt (key : List ℕ) (d : Data) : Type 0 where
  pub text : List ℕ
  pub url : WebUrl
  pub text_there : text_at key d ≡ Some text
  pub url_there : url_at key d ≡ Some url

pub url_found : (r : Row) (d : Data) (key : List ℕ) (other : WebUrl) → keys.required r d key kind.Url ≡ [] → UrlAt key d
url_found r d key other h =
    let k : Kept kind.Url (get key d) = kept_at (path_text r key) kind.Url (get key d) h in
    let u : KeptUrl (as_str k.value) = url_there (as_str k.value) k.kept in
    let there : text_at key d ≡ Some u.value = ap (option_and_then as_str) k.there ∙ u.there in
    record { text = u.value; url = unwrap_or (url_of u.value) other; text_there = there; url_there = ap (option_and_then url_of) there ∙ some_of (url_of u.value) other u.url }

-- a text that has a default
optional_text_at : (path other : List ℕ) (rule : TextRule) (o : Option Data) → text_keeps rule other ≡ true → keys.optional_value path (kind.Text rule) o ≡ [] → text_keeps rule (unwrap_or (option_and_then as_str o) other) ≡ true
optional_text_at path other rule None fine h = fine
optional_text_at path other rule (Some d) fine h =
    let p : Passing (text_keeps rule) (as_str d) = passing (text_keeps rule) (as_str d) (met (passes (text_keeps rule) (as_str d)) WrongKind (unbreached path (breach (kind.Text rule) d) h)) in
    ap (text_keeps rule) (or_else (as_str d) p.value other p.there) ∙ p.passed

pub optional_text_kept : (r : Row) (d : Data) (key other : List ℕ) (rule : TextRule) → text_keeps rule other ≡ true → keys.optional r d key (kind.Text rule) ≡ [] → text_keeps rule (text_or key other d) ≡ true
optional_text_kept r d key other rule fine h = optional_text_at (path_text r key) other rule (get key d) fine h

-- a value that is optional
pub optional_at : (path : List ℕ) (k : Kind) (o : Option Data) → keys.optional_value path k o ≡ [] → (o ≡ None) ⊎ Kept k o
optional_at path k None h = inl refl
optional_at path k (Some d) h = inr (record { value = d; there = refl; kept = unbreached path (breach k d) h })

-- an issuer
record KeptIssuer (t : List ℕ) (u : WebUrl) : Type 0 where
  url : url_of t ≡ Some u
  short : length t ≤ 200
  query : u.query ≡ None

no_query : (o : Option (List ℕ)) → not (is_some o) ≡ true → o ≡ None
no_query None h = refl
no_query (Some q) h = absurd (true≢false (sym h))

both_true : (a b : Bool) → (a && b) ≡ true → (a ≡ true) × (b ≡ true)
both_true true b h = (refl, h)
both_true false b h = absurd (true≢false (sym h))

issuer_url : (t : List ℕ) (o : Option WebUrl) → url_of t ≡ o → issuer_breach t o ≡ None → (u : WebUrl) × KeptIssuer t u
issuer_url t None is h = some_not_none BadUrl h
issuer_url t (Some u) is h =
    let halves = both_true (nat_le (length t) 200) (not (is_some u.query)) (met (nat_le (length t) 200 && not (is_some u.query)) WrongKind h) in
    (u, record { url = is; short = leb-true (length t) 200 halves.0; query = no_query u.query halves.1 })

issuer_there : (o : Option (List ℕ)) → issuer_text_breach o ≡ None → (t : List ℕ) × (u : WebUrl) × (o ≡ Some t) × KeptIssuer t u
issuer_there None h = some_not_none WrongKind h
issuer_there (Some t) h = let u = issuer_url t (url_of t) refl h in (t, u.0, refl, u.1)

-- what the provider's row says, where nothing is noted of it
pub record ProviderKept (d : Data) : Type 0 where
  pub url : WebUrl
  pub issuer : url_of (text_or (codes "issuer") [] d) ≡ Some url
  pub there : url_at (codes "issuer") d ≡ Some url
  pub short : length (text_or (codes "issuer") [] d) ≤ 200
  pub query : url.query ≡ None
  pub listen : is_name Visible 1 64 (text_or (codes "listen") [] d) ≡ true
  pub salt : is_within 16 64 (length (hex_at (codes "salt") d)) ≡ true

-- ---- keys of the second version

within_by : (n : ℕ) (b : Bool) → is_within 4 64 n ≡ true → is_within 4 64 (cond b n 4) ≡ true
within_by n true h = h
within_by n false h = refl

workers_at : (o : Option Data) → (o ≡ None) ⊎ Kept (kind.Number 4 64) o → is_within 4 64 (workers_in (option_and_then as_natural o)) ≡ true
workers_at o (inl none) = ap (λ q. is_within 4 64 (workers_in (option_and_then as_natural q))) none
workers_at o (inr k) =
    let p : Passing (is_within 4 64) (as_natural k.value) = number_in 4 64 k.value k.kept in
    ap (λ q. is_within 4 64 (workers_in (option_and_then as_natural q))) k.there
    ∙ ap (λ q. is_within 4 64 (workers_in q)) p.there
    ∙ within_by p.value (nat_le p.value 64) p.passed

-- the number of workers is in its bounds
pub workers_kept : (r : Row) (d : Data) → keys.workers_key r d ≡ [] → is_within 4 64 (workers_in (natural_at (codes "workers") d)) ≡ true
workers_kept r d h = workers_at (get (codes "workers") d) (optional_at (path_text r (codes "workers")) (kind.Number 4 64) (get (codes "workers") d) h)

-- what the keys for servers say, where nothing is noted of them
pub record ServerKept (v : Version) (d : Data) : Type 0 where
  pub issuer : keys.issuer_rule (keys.host_cookies v d) d ≡ []
  pub workers : is_within 4 64 (workers_of v d) ≡ true

server_kept : (v : Version) (d : Data) → keys.server_keys v d ≡ [] → ServerKept v d
server_kept version.First d h = record { issuer = refl; workers = refl }
server_kept version.Second d h =
    let a : List RegNo = keys.optional row.Provider d (codes "cookies") (kind.Text text.Cookies) in
    let b : List RegNo = keys.issuer_rule (keys.host_cookies version.Second d) d in
    let c : List RegNo = keys.workers_key row.Provider d in
    record { issuer = back_nil a b (front_nil (a ++ b) c h); workers = workers_kept row.Provider d (back_nil (a ++ b) c h) }

-- the keys of the provider's row before these
abbrev provider_front : Version → Data → List RegNo
provider_front v d =
    keys.required row.Provider d (codes "issuer") kind.Issuer
    ++ keys.required row.Provider d (codes "listen") (kind.Text (text.Name Visible 1 64))
    ++ keys.required row.Provider d (codes "salt") (kind.Text (text.Hex 16 64))
    ++ keys.history_key v d
    ++ keys.page_keys v d

pub servers_kept : (v : Version) (d : Data) → keys.provider_row v d ≡ [] → ServerKept v d
servers_kept v d w = server_kept v d (back_nil (provider_front v d) (keys.server_keys v d) w)

pub provider_kept : (v : Version) (d : Data) → keys.provider_row v d ≡ [] → ProviderKept d
provider_kept v d w =
    let a : List RegNo = keys.required row.Provider d (codes "issuer") kind.Issuer in
    let b : List RegNo = keys.required row.Provider d (codes "listen") (kind.Text (text.Name Visible 1 64)) in
    let c : List RegNo = keys.required row.Provider d (codes "salt") (kind.Text (text.Hex 16 64)) in
    let e : List RegNo = keys.history_key v d in
    let abce : ((a ++ b) ++ c) ++ e ≡ [] = front_nil (((a ++ b) ++ c) ++ e) (keys.page_keys v d) (front_nil ((((a ++ b) ++ c) ++ e) ++ keys.page_keys v d) (keys.server_keys v d) w) in
    let h : (a ++ b) ++ c ≡ [] = front_nil ((a ++ b) ++ c) e abce in
    let ab : a ++ b ≡ [] = front_nil (a ++ b) c h in
    let k : Kept kind.Issuer (get (codes "issuer") d) = kept_at (path_text row.Provider (codes "issuer")) kind.Issuer (get (codes "issuer") d) (front_nil a b ab) in
    let u = issuer_there (as_str k.value) k.kept in
    let there : text_at (codes "issuer") d ≡ Some u.0 = ap (option_and_then as_str) k.there ∙ u.2 in
    let same : text_or (codes "issuer") [] d ≡ u.0 = or_else (text_at (codes "issuer") d) u.0 [] there in
    record {
      url = u.1;
      issuer = ap url_of same ∙ u.3.url;
      there = ap (option_and_then url_of) there ∙ u.3.url;
      short = subst (λ t. length t ≤ 200) (sym same) u.3.short;
      query = u.3.query;
      listen = text_kept row.Provider d (codes "listen") (text.Name Visible 1 64) (back_nil a b ab);
      salt = hex_kept row.Provider d (codes "salt") 16 64 (back_nil (a ++ b) c h);
    }
