-- Laws about authorization requests. Each is a clause of a function of `law.rt`, which says it in words.
use Rattle.std.specs.Prelude.{◌≡◌, ◌↔◌, ◌&&◌, ◌||◌, ℕ, Bool, true, List, codes, Some, is_some, option_and_then, IfSome}
use Rattle.serde_json.specs.Data.{Data}
use Rattle.serde_json.specs.Find.{get}
use Rattle.serde_json.specs.Read.{read}
use Rattle.sso_base.specs.Refusals.{NoneHolds}
use Rattle.sso_base.specs.Texts.{has_text}
use Rattle.client_registry.specs.declared.records.Client.{Client}
use Rattle.client_registry.specs.Configuration.{Configuration}
use Rattle.client_registry.specs.Numbers.{client_at}
use Rattle.oidc_words.specs.Claims.{is_standard_claim}
use Rattle.oidc_words.specs.Words.{is_filled}
use Rattle.request_params.specs.declared.params.Params.{Params}
use Rattle.oidc_words.specs.declared.errors.Refusal.{Refusal}
use Rattle.auth_request.specs.declared.wish.PageNo.{PageNo}
use Rattle.auth_request.specs.declared.wish.Verdict.TheVariants as verdict
use Rattle.auth_request.specs.ClaimsParameter.{is_claims_request, claims_of}
use Rattle.auth_request.specs.NamedSubjects.{names_subject}
use Rattle.auth_request.specs.Parameters.{asking_of}
use Rattle.auth_request.specs.Judgement.{judgement, errors, wish_of}
use Rattle.auth_request.specs.Granted.{ClientsAreApart, IsRegistered, AnswersInFragment}

-- ---- answers

abbrev pub RegisteredUrisGetNoErrorPage : Type 0
RegisteredUrisGetNoErrorPage =
    (c : Configuration) (p : Params) (b : Bool) (y : PageNo) (n : ℕ) (uri : List ℕ) → ClientsAreApart c
    → judgement c p b ≡ verdict.Page y → IsRegistered c p n uri → ⊥

abbrev pub ErrorsAreInTheFragmentOfTheType : Type 0
ErrorsAreInTheFragmentOfTheType =
    (c : Configuration) (p : Params) (b : Bool) (x : Refusal) → judgement c p b ≡ verdict.Refuse x
    → (x.fragment ≡ true) ↔ AnswersInFragment p

abbrev pub RequestsWithoutErrorsAreGranted : Type 0
RequestsWithoutErrorsAreGranted =
    (c : Configuration) (p : Params) (b : Bool) (n : ℕ) (k : Client) (uri : List ℕ) → ClientsAreApart c → IsRegistered c p n uri
    → client_at c n ≡ Some k → NoneHolds (errors k p (asking_of p) b)
    → judgement c p b ≡ verdict.Grant (wish_of n uri p (asking_of p))

-- ---- the claims parameter

abbrev pub IdTokenClaimsAreStandardMembers : Type 0
IdTokenClaimsAreStandardMembers =
    (t : List ℕ) (d : Data) (q : List ℕ) → read t ≡ Some d → is_claims_request d ≡ true
    → has_text q (claims_of (Some t)).id_asked
    ≡ (is_standard_claim q && is_some (option_and_then (get q) (get (codes "id_token") d)))

abbrev pub UserInfoClaimsAreStandardMembers : Type 0
UserInfoClaimsAreStandardMembers =
    (t : List ℕ) (d : Data) (q : List ℕ) → read t ≡ Some d → is_claims_request d ≡ true
    → has_text q (claims_of (Some t)).info_asked
    ≡ (is_standard_claim q && is_some (option_and_then (get q) (get (codes "userinfo") d)))

abbrev pub SubjectsAreNamedByValueOrValues : Type 0
SubjectsAreNamedByValueOrValues =
    (t : List ℕ) (d sub : Data) → read t ≡ Some d → is_claims_request d ≡ true
    → option_and_then (get (codes "sub")) (get (codes "id_token") d) ≡ Some sub
    → is_some (claims_of (Some t)).subs ≡ (is_some (get (codes "value") sub) || is_some (get (codes "values") sub))

abbrev pub NamedSubjectsAreKept : Type 0
NamedSubjectsAreKept =
    (t : List ℕ) (d sub : Data) (q : List ℕ) → read t ≡ Some d → is_claims_request d ≡ true
    → option_and_then (get (codes "sub")) (get (codes "id_token") d) ≡ Some sub → is_filled q ≡ true
    → IfSome (claims_of (Some t)).subs (λ subs. has_text q subs ≡ names_subject q sub)
