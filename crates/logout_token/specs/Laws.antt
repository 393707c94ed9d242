-- Laws about logout tokens. Each is a clause of a function of `law.rt`, which says it in words.
use Rattle.std.specs.Prelude.{◌≡◌, ◌<◌, ◌+◌, ℕ, List, Ok, Err, IsOk}
use Rattle.serde_json.specs.Data.{Members}
use Rattle.sso_base.specs.Refusals.{first_refusal}
use Rattle.oidc_words.specs.Lives.{seen_life}
use Rattle.claim_set.specs.Reading.{Reads}
use Rattle.jws_compact.specs.Jws.{Sealed, typ_of}
use Rattle.logout_token.specs.declared.claims.LogoutClaims.{LogoutClaims}
use Rattle.logout_token.specs.declared.no.LogoutNo.{LogoutNo}
use Rattle.logout_token.specs.LogoutToken.{logout_read}
use Rattle.logout_token.specs.Judging.{IsGoodLogoutToken}
use Rattle.logout_token.specs.Token.{logout_refusals}

-- ---- refusals

abbrev pub RefusedTokensHaveTheFirstReason : Type 0
RefusedTokensHaveTheFirstReason =
    (k h p t : List ℕ) (ms : Members) (e : LogoutNo) → Sealed k h p t → Reads p ms
    → first_refusal (logout_refusals (typ_of h) ms) ≡ Err e → logout_read k t ≡ Err e

abbrev pub TokensWithoutReasonAreAccepted : Type 0
TokensWithoutReasonAreAccepted =
    (k h p t : List ℕ) (ms : Members) → Sealed k h p t → Reads p ms → first_refusal (logout_refusals (typ_of h) ms) ≡ Ok tt
    → IsOk (logout_read k t)

-- ---- remembered tokens

abbrev pub GoodTokensAreRemembered : Type 0
GoodTokensAreRemembered =
    (issuer client : List ℕ) (x : LogoutClaims) (at later : ℕ) → IsGoodLogoutToken issuer client x at
    → IsGoodLogoutToken issuer client x later → later < at + seen_life
