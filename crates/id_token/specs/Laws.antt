-- Laws about ID Tokens. Each is a clause of a function of `law.rt`, which says it in words.
use Rattle.std.specs.Prelude.{◌≡◌, ◌<◌, ◌^◌, ℕ, List, Err, IfSome, IsTrue}
use Rattle.serde_json.specs.Data.{Members}
use Rattle.sso_base.specs.Refusals.{first_refusal}
use Rattle.claim_set.specs.Fitting.{ClaimsFit}
use Rattle.claim_set.specs.Reading.{Reads}
use Rattle.jws_compact.specs.Jws.{Sealed}
use Rattle.id_token.specs.declared.claims.IdClaims.{IdClaims}
use Rattle.id_token.specs.declared.no.IdNo.{IdNo}
use Rattle.id_token.specs.Claims.{id_members, is_subject}
use Rattle.id_token.specs.Reading.{id_read}
use Rattle.id_token.specs.Sealing.{HasTexts}
use Rattle.id_token.specs.Token.{id_refusals}

-- ---- refusals

abbrev pub RefusedTokensHaveTheFirstReason : Type 0
RefusedTokensHaveTheFirstReason =
    (k h p t : List ℕ) (ms : Members) (e : IdNo) → Sealed k h p t → Reads p ms → first_refusal (id_refusals ms) ≡ Err e
    → id_read k t ≡ Err e

-- ---- lengths

abbrev pub ClaimsOfTheirTypesFit : Type 0
ClaimsOfTheirTypesFit =
    (x : IdClaims) → HasTexts x → IsTrue (is_subject x.sub) → x.exp < 2 ^ 40 → x.iat < 2 ^ 40
    → IfSome x.auth_time (λ n. n < 2 ^ 40) → ClaimsFit (id_members x)
