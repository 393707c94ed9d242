-- A request authenticates a client if and only if it shows the client's id and a secret of it.
use Rattle.std.proofs.Common.{◌≡◌, inl, inr, ℕ, List, [], ◌∷◌, Bool, true, false, not, ◌&&◌, cond, map, codes, Option, Some, None, option_map, option_and_then, is_some, is_none, unwrap_or, Result, Ok, slice_get, refl, sym, ap, ◌∙◌, subst, arith}
use Rattle.sso_base.specs.Words.{Text}
use Rattle.sso_base.specs.Refusals.{first_refusal, NoneHolds, and_then}
use Rattle.sso_base.specs.Texts.{is_other}
use Rattle.sso_base.proofs.Refusals.{none_holds, and_then_ok}
use Rattle.sso_base.proofs.Decided.{same, are_same}
use Rattle.client_registry.specs.declared.records.Client.{Client}
use Rattle.client_registry.specs.Configuration.{Configuration}
use Rattle.client_registry.specs.Records.{client_place}
use Rattle.client_registry.specs.Registered.{AreApart}
use Rattle.client_registry.specs.Secrets.{has_secret}
use Rattle.request_params.specs.Form.{Pair}
use Rattle.request_params.specs.Reading.{value_of, first_repeated, StandOnce}
use Rattle.request_params.proofs.Values.{value_there, has_value, has_its_name, value_of_pair}
use Rattle.request_params.proofs.Repeated.{none_repeated, repeated_none}
use Rattle.token_endpoint.specs.declared.basic.Credentials.{Credentials}
use Rattle.token_endpoint.specs.declared.no.GrantNo.{GrantNo}
use Rattle.token_endpoint.specs.declared.no.GrantNo.TheVariants.{Twice, TwoAuths, NoAuth, WrongClient}
use Rattle.token_endpoint.specs.Basic.{basic_header, basic_read, IsBasic}
use Rattle.token_endpoint.specs.Authentication.{is_there, if_secret, client_with, unless_other, credentials, posted, client_shown, client_refusals, client_read}
use Rattle.token_endpoint.specs.Authentication.{is_secret_of}
use Rattle.token_endpoint.specs.Granted.{HasNo, ShowsByBasic, ShowsByParameters, Shows, Authenticates}
use Rattle.token_endpoint.proofs.Lookups.{and_found, map_found, none_of, there_of}
use Rattle.token_endpoint.proofs.Clients.{place_found, place_of_client}
use Rattle.token_endpoint.proofs.Headers.{header_there, read_is_basic, basic_is_found, basic_is_read}

-- ---- parameters

pub no_value : (ps : List Pair) (name : Text) → value_of name ps ≡ None → HasNo ps name
no_value ps name h v has =
    let there : is_some (value_of name ps) ≡ true = value_there name ps ∙ has_its_name ps (name, v) has in
    absurd (cc (ap is_some h, there))

none_at : (ps : List Pair) (name : Text) (o : Option Text) → value_of name ps ≡ o → HasNo ps name → o ≡ None
none_at ps name None is none = refl
none_at ps name (Some v) is none = absurd (none v (has_value ps name v is))

pub none_value : (ps : List Pair) (name : Text) → HasNo ps name → value_of name ps ≡ None
none_value ps name none = none_at ps name (value_of name ps) refl none

other_at : (text : Text) (o : Option Text) → is_other text o ≡ false → (t : Text) → o ≡ Some t → t ≡ text
other_at text None h t is = absurd (cc)
other_at text (Some u) h t is = let this : u ≡ t = cc in sym this ∙ are_same u text h

pub not_other : (text : Text) (o : Option Text) → is_other text o ≡ false → (t : Text) → o ≡ Some t → t ≡ text
not_other text o h t is = other_at text o h t is

pub is_same : (text : Text) (o : Option Text) → ((t : Text) → o ≡ Some t → t ≡ text) → is_other text o ≡ false
is_same text None h = refl
is_same text (Some u) h = ap not (same u text (h u refl))

-- ---- the client of an id and a secret

pub record IsWith (c : Configuration) (shown : Credentials) (n : ℕ) : Type 0 where
  pub client : Client
  pub there : slice_get c.clients n ≡ Some client
  pub named : client.id ≡ shown.id
  pub own : has_secret shown.secret client ≡ true

secret_tested : (n m : ℕ) (b : Bool) → cond b (Some m) None ≡ Some n → (b ≡ true) × (m ≡ n)
secret_tested n m true e = (refl, cc)
secret_tested n m false e = absurd (cc)

secret_at : (secret : Text) (o : Option Client) (n m : ℕ) → cond (is_secret_of secret o) (Some m) None ≡ Some n → (k : Client) → o ≡ Some k → (has_secret secret k ≡ true) × (m ≡ n)
secret_at secret None n m h k is = absurd (cc)
secret_at secret (Some l) n m h k is =
    let this : l ≡ k = cc in
    subst (λ (x : Client). (has_secret secret x ≡ true) × (m ≡ n)) this (secret_tested n m (has_secret secret l) h)

pub with_is : (c : Configuration) (shown : Credentials) (n : ℕ) → client_with c shown ≡ Some n → IsWith c shown n
with_is c shown n h =
    let at = and_found (client_place shown.id c.clients) (if_secret c shown.secret) n h in
    let place = place_found shown.id c.clients at.0 at.1 in
    let past : at.0 ≡ place.past = omega (arith, place.at) in
    let there : slice_get c.clients at.0 ≡ Some place.client = ap (slice_get c.clients) past ∙ place.there in
    let tested = secret_at shown.secret (slice_get c.clients at.0) n at.0 at.2 place.client there in
    record {
      client = place.client;
      there = ap (slice_get c.clients) (sym tested.1) ∙ there;
      named = place.named;
      own = tested.0;
    }

abbrev pub IdsDiffer : Configuration → Type 0
IdsDiffer c = AreApart (map (λ (k : Client). k.id) c.clients)

pub is_with : (c : Configuration) (n : ℕ) (k : Client) (secret : Text) → IdsDiffer c → slice_get c.clients n ≡ Some k → has_secret secret k ≡ true → client_with c (credentials k.id secret) ≡ Some n
is_with c n k secret apart there own =
    ap (option_and_then (if_secret c secret)) (place_of_client c.clients n k apart there)
    ∙ ap (λ o. cond (is_secret_of secret o) (Some n) None) there
    ∙ ap (λ b. cond b (Some n) None) own

-- ---- what is shown

by_parameters : (c : Configuration) (auth : Option (List ℕ)) (ps : List Pair) (n : ℕ) → basic_header auth ≡ None → client_shown c None ps ≡ Some n → Authenticates c auth ps n
by_parameters c auth ps n none h =
    let shown = and_found (posted ps) (client_with c) n h in
    let id = and_found (value_of (codes "client_id") ps) (λ id. option_map (credentials id) (value_of (codes "client_secret") ps)) shown.0 shown.1 in
    let secret = map_found (value_of (codes "client_secret") ps) (credentials id.0) shown.0 id.2 in
    let client = with_is c shown.0 n shown.2 in
    let same_id : id.0 ≡ client.client.id = ap (λ (x : Credentials). x.id) secret.2 ∙ sym client.named in
    let same_secret : secret.0 ≡ shown.0.secret = ap (λ (x : Credentials). x.secret) secret.2 in
    record {
      client = client.client;
      there = client.there;
      secret = shown.0.secret;
      own = client.own;
      shows = inr (record {
        no_basic = none;
        id = has_value ps (codes "client_id") client.client.id (id.1 ∙ ap Some same_id);
        secret = has_value ps (codes "client_secret") shown.0.secret (secret.1 ∙ ap Some same_secret);
      });
    }

unless_at : (c : Configuration) (named : Option Text) (shown : Credentials) (n : ℕ) (b : Bool) → is_other shown.id named ≡ b → cond b None (client_with c shown) ≡ Some n → (b ≡ false) × (client_with c shown ≡ Some n)
unless_at c named shown n true is h = absurd (cc)
unless_at c named shown n false is h = (refl, h)

by_basic : (c : Configuration) (auth : Option (List ℕ)) (ps : List Pair) (n : ℕ) (header : List ℕ) → StandOnce ps → basic_header auth ≡ Some header → is_there (codes "client_secret") ps ≡ false → client_shown c (Some header) ps ≡ Some n
    → Authenticates c auth ps n
by_basic c auth ps n header once is alone h =
    let named : Option Text = value_of (codes "client_id") ps in
    let at = header_there auth header is in
    let shown = and_found (basic_read header) (unless_other c named) n h in
    let tested = unless_at c named shown.0 n (is_other shown.0.id named) refl shown.2 in
    let client = with_is c shown.0 n tested.1 in
    let same_shown : shown.0 ≡ credentials client.client.id shown.0.secret = λ i. record { id = sym client.named i; secret = shown.0.secret } in
    record {
      client = client.client;
      there = client.there;
      secret = shown.0.secret;
      own = client.own;
      shows = inl (record {
        header = header;
        there = at.0;
        basic = subst (IsBasic header) same_shown (read_is_basic header shown.0 at.1 shown.1);
        no_secret = no_value ps (codes "client_secret") (none_of (value_of (codes "client_secret") ps) alone);
        no_other = λ id has.
            not_other shown.0.id named tested.0 id (value_of_pair ps (codes "client_id", id) once has)
            ∙ sym client.named;
      });
    }

shown_at : (c : Configuration) (auth : Option (List ℕ)) (ps : List Pair) (n : ℕ) (o : Option (List ℕ)) → StandOnce ps → basic_header auth ≡ o → (is_some o && is_there (codes "client_secret") ps) ≡ false → client_shown c o ps ≡ Some n
    → Authenticates c auth ps n
shown_at c auth ps n None once is alone h = by_parameters c auth ps n is h
shown_at c auth ps n (Some header) once is alone h = by_basic c auth ps n header once is alone h

-- what the tests of a request say that authenticates the client of the number n
pub record Passes (c : Configuration) (basic : Option (List ℕ)) (ps : List Pair) (n : ℕ) : Type 0 where
  pub one_way : (is_some basic && is_there (codes "client_secret") ps) ≡ false
  pub some_way : (is_none basic && not (is_there (codes "client_id") ps && is_there (codes "client_secret") ps)) ≡ false
  pub shown : client_shown c basic ps ≡ Some n

passes_basic : (c : Configuration) (auth : Option (List ℕ)) (ps : List Pair) (n : ℕ) (k : Client) (secret : Text) → StandOnce ps → IdsDiffer c → slice_get c.clients n ≡ Some k → has_secret secret k ≡ true → ShowsByBasic auth ps (credentials k.id secret)
    → Passes c (basic_header auth) ps n
passes_basic c auth ps n k secret once apart there own b =
    let named : Option Text = value_of (codes "client_id") ps in
    let is : basic_header auth ≡ Some b.header = ap basic_header b.there ∙ basic_is_found b.header (credentials k.id secret) b.basic in
    let no_other : is_other k.id named ≡ false = is_same k.id named (λ id h. b.no_other id (has_value ps (codes "client_id") id h)) in
    subst (λ o. Passes c o ps n) (sym is) (record {
      one_way = ap is_some (none_value ps (codes "client_secret") b.no_secret);
      some_way = refl;
      shown =
          ap (option_and_then (unless_other c named)) (basic_is_read b.header (credentials k.id secret) b.basic)
          ∙ ap (λ t. cond t None (client_with c (credentials k.id secret))) no_other
          ∙ is_with c n k secret apart there own;
    })

posted_is : (ps : List Pair) (id secret : Text) → value_of (codes "client_id") ps ≡ Some id → value_of (codes "client_secret") ps ≡ Some secret → posted ps ≡ Some (credentials id secret)
posted_is ps id secret a b = ap (option_and_then (λ i. option_map (credentials i) (value_of (codes "client_secret") ps))) a ∙ ap (option_map (credentials id)) b

both_there : (a b : Bool) → a ≡ true → b ≡ true → not (a && b) ≡ false
both_there true true h k = refl
both_there true false h k = absurd (cc)
both_there false b h k = absurd (cc)

passes_parameters : (c : Configuration) (auth : Option (List ℕ)) (ps : List Pair) (n : ℕ) (k : Client) (secret : Text) → StandOnce ps → IdsDiffer c → slice_get c.clients n ≡ Some k → has_secret secret k ≡ true → ShowsByParameters auth ps (credentials k.id secret)
    → Passes c (basic_header auth) ps n
passes_parameters c auth ps n k secret once apart there own p =
    let id = value_of_pair ps (codes "client_id", k.id) once p.id in
    let given = value_of_pair ps (codes "client_secret", secret) once p.secret in
    subst (λ o. Passes c o ps n) (sym p.no_basic) (record {
      one_way = refl;
      some_way = both_there (is_there (codes "client_id") ps) (is_there (codes "client_secret") ps) (ap is_some id) (ap is_some given);
      shown = ap (option_and_then (client_with c)) (posted_is ps k.id secret id given) ∙ is_with c n k secret apart there own;
    })

passes_at : (c : Configuration) (auth : Option (List ℕ)) (ps : List Pair) (n : ℕ) (k : Client) (secret : Text) → StandOnce ps → IdsDiffer c → slice_get c.clients n ≡ Some k → has_secret secret k ≡ true → Shows auth ps (credentials k.id secret)
    → Passes c (basic_header auth) ps n
passes_at c auth ps n k secret once apart there own (inl b) = passes_basic c auth ps n k secret once apart there own b
passes_at c auth ps n k secret once apart there own (inr p) = passes_parameters c auth ps n k secret once apart there own p

pub passes : (c : Configuration) (auth : Option (List ℕ)) (ps : List Pair) (n : ℕ) → StandOnce ps → IdsDiffer c → Authenticates c auth ps n → Passes c (basic_header auth) ps n
passes c auth ps n once apart a = passes_at c auth ps n a.client a.secret once apart a.there a.own a.shows

-- ---- what is answered

abbrev number : ℕ → Result ℕ GrantNo
number n = Ok n

same_number : (m n : ℕ) → number m ≡ number n → m ≡ n
same_number m n h = cc

pub client_is : (c : Configuration) (auth : Option (List ℕ)) (ps : List Pair) (n : ℕ) → client_read c auth ps ≡ Ok n → StandOnce ps × Authenticates c auth ps n
unfolding client_read
client_is c auth ps n h =
    let basic : Option (List ℕ) = basic_header auth in
    let passed = and_then_ok (first_refusal (client_refusals c basic ps)) (λ _. number (unwrap_or (client_shown c basic ps) 0)) n h in
    let tests : NoneHolds (client_refusals c basic ps) = none_holds (client_refusals c basic ps) passed.1 in
    let once : StandOnce ps = none_repeated [] ps tt (none_of (first_repeated ps) tests.0) in
    let shown = there_of (client_shown c basic ps) tests.1.1.1.0 in
    let this : shown.0 ≡ n = ap (λ o. unwrap_or o 0) (sym shown.1) ∙ same_number (unwrap_or (client_shown c basic ps) 0) n passed.2 in
    (once, shown_at c auth ps n basic once refl tests.1.0 (shown.1 ∙ ap Some this))

-- none of four conditions holds
pub none_of_four : {E : Type 0} (a b c d : Bool) (w x y z : E) → a ≡ false → b ≡ false → c ≡ false → d ≡ false → first_refusal ((a, w) ∷ (b, x) ∷ (c, y) ∷ (d, z) ∷ []) ≡ Ok tt
none_of_four true b c d w x y z p q r s = absurd (cc)
none_of_four false true c d w x y z p q r s = absurd (cc)
none_of_four false false true d w x y z p q r s = absurd (cc)
none_of_four false false false true w x y z p q r s = absurd (cc)
none_of_four false false false false w x y z p q r s = refl

pub is_client : (c : Configuration) (auth : Option (List ℕ)) (ps : List Pair) (n : ℕ) → StandOnce ps → IdsDiffer c → Authenticates c auth ps n → client_read c auth ps ≡ Ok n
unfolding client_read
is_client c auth ps n once apart a =
    let basic : Option (List ℕ) = basic_header auth in
    let pass = passes c auth ps n once apart a in
    let none : first_refusal (client_refusals c basic ps) ≡ Ok tt =
    none_of_four
    (is_some (first_repeated ps))
    (is_some basic && is_there (codes "client_secret") ps)
    (is_none basic && not (is_there (codes "client_id") ps && is_there (codes "client_secret") ps))
    (is_none (client_shown c basic ps))
    (Twice (unwrap_or (first_repeated ps) [])) TwoAuths NoAuth WrongClient
    (ap is_some (repeated_none [] ps once)) pass.one_way pass.some_way (ap is_none pass.shown) in
    ap (λ r. and_then r (λ _. number (unwrap_or (client_shown c basic ps) 0))) none ∙ ap (λ o. number (unwrap_or o 0)) pass.shown
