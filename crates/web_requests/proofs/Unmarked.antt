-- The issuer of a registry has no `?`, so the first one in an authorization request's location is the mark of its query.
use Rattle.std.proofs.Common.{◌≡◌, ◌+◌, ◌==◌, ◌&&◌, not, ℕ, suc, Bool, true, false, cond, List, [], ◌∷◌, ◌++◌, drop, codes, Option, Some, None, refl, sym, ap, ◌∙◌, arith, true≢false, append_assoc}
use Rattle.std.specs.Prelude.{is_some, IfSome}
use Rattle.std.specs.List.{after_first, position_or_len}
use Rattle.sso_base.specs.RequestLine.{is_question}
use Rattle.registered_url.specs.declared.web_url.WebUrl.{WebUrl}
use Rattle.registered_url.specs.Rule.{url_of}
use Rattle.registered_url.proofs.Below.{lacks, unmarked_url, front_all, both_all}
use Rattle.oidc_words.specs.Paths.{authorize_path}
use Rattle.client_registry.specs.declared.records.Provider.{Provider}
use Rattle.client_registry.specs.Records.{without_slash}
use Rattle.client_registry.specs.Configuration.{Configuration}
use Rattle.client_registry.specs.Registered.{IsIssuerUrl, IsRegistry}
use Rattle.client_registry.proofs.Slashes.{Cut, cut_of}
use Rattle.request_params.specs.Location.{has_query}

-- ---- the authorization endpoint

unmarked_issuer : (c : Configuration) (o : Option WebUrl) → url_of c.provider.issuer ≡ o → is_some o ≡ true → IfSome o (IsIssuerUrl c) → lacks 63 c.provider.issuer ≡ true
unmarked_issuer c None is h r = absurd (true≢false (sym h))
unmarked_issuer c (Some u) is h r = (unmarked_url c.provider.issuer u is r.query).1

abbrev no_question : ℕ → Bool
no_question b = not (b == 63)

endpoint_lacks : (issuer path : List ℕ) → lacks 63 issuer ≡ true → lacks 63 path ≡ true → lacks 63 (without_slash issuer ++ path) ≡ true
endpoint_lacks issuer path h g =
    let c : Cut issuer = cut_of issuer in
    both_all no_question (without_slash issuer) path (front_all no_question (without_slash issuer) c.tail (ap (lacks 63) (sym c.whole) ∙ h)) g

authorize_lacks : (c : Configuration) → IsRegistry c → lacks 63 c.provider.authorize ≡ true
authorize_lacks c r =
    ap (λ (p : Provider). lacks 63 p.authorize) r.provider
    ∙ endpoint_lacks c.provider.issuer authorize_path (unmarked_issuer c (url_of c.provider.issuer) refl r.issuer r.issuer_url) refl

-- ---- what follows the first `?`

never_at : (b c : Bool) → (not b && c) ≡ true → (b ≡ false) × (c ≡ true)
never_at true c h = absurd (true≢false (sym h))
never_at false c h = (refl, h)

no_query : (t : List ℕ) → lacks 63 t ≡ true → has_query t ≡ false
no_query [] h = refl
no_query (b ∷ t) h =
    let p : ((b == 63) ≡ false) × (lacks 63 t ≡ true) = never_at (b == 63) (lacks 63 t) h in
    rw (p.0) (no_query t p.1)

drop_more : (b : ℕ) (t : List ℕ) (n : ℕ) → drop (suc n + 1) (b ∷ t) ≡ drop (n + 1) t
drop_more b t n = let next : suc n + 1 ≡ suc (n + 1) = omega arith in ap (λ m. drop m (b ∷ t)) next

one_more : (n : ℕ) → 1 + n ≡ suc n
one_more n = omega arith

after_mark : (t form : List ℕ) → lacks 63 t ≡ true → after_first is_question (t ++ 63 ∷ form) ≡ form
after_mark [] form h = refl
after_mark (b ∷ t) form h =
    let p : ((b == 63) ≡ false) × (lacks 63 t ≡ true) = never_at (b == 63) (lacks 63 t) h in
    let n = position_or_len is_question (t ++ 63 ∷ form) in
    let step : position_or_len is_question (b ∷ (t ++ 63 ∷ form)) ≡ suc n = ap (λ x. cond (not x) (1 + n) 0) p.0 ∙ one_more n in
    ap (λ m. drop (m + 1) (b ∷ (t ++ 63 ∷ form))) step ∙ drop_more b (t ++ 63 ∷ form) n ∙ after_mark t form p.1

-- behind the authorization endpoint and the mark of a query stands the query
pub query_behind : (c : Configuration) (form : List ℕ) → IsRegistry c → has_query c.provider.authorize ≡ false
    → after_first is_question (c.provider.authorize ++ codes "?" ++ form) ≡ form
query_behind c form r none =
    ap (after_first is_question) (append_assoc c.provider.authorize (codes "?") form) ∙ after_mark c.provider.authorize form (authorize_lacks c r)

pub no_query_there : (c : Configuration) → IsRegistry c → has_query c.provider.authorize ≡ false
no_query_there c r = no_query c.provider.authorize (authorize_lacks c r)
