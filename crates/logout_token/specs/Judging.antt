-- Verification of a logout token (OpenID Connect Back-Channel Logout 1.0, 2.6, which refers to OpenID Connect Core 1.0,
-- 3.1.3.7, for `iss`, `aud`, `iat` and `exp`). Moments are seconds since the epoch; the sums have no bound.
use Rattle.std.specs.Prelude.{◌≡◌, ◌≤◌, ◌<◌, ◌+◌, ℕ, List, [], ◌∷◌, Bool, not, nat_lt, nat_le, Result, IsTrue}
use Rattle.std.specs.Str.{bytes_eq}
use Rattle.sso_base.specs.Texts.{is_only}
use Rattle.sso_base.specs.Refusals.{first_refusal}
use Rattle.oidc_words.specs.Lives.{leeway, oldest}
use Rattle.logout_token.specs.declared.claims.LogoutClaims.{LogoutClaims}
use Rattle.logout_token.specs.declared.no.LogoutNo.{LogoutNo}
use Rattle.logout_token.specs.declared.no.LogoutNo.TheVariants.{Issuer, Audience, Expired, TooOld, FromFuture}

-- the conditions in order, each with its error
abbrev pub conditions : List ℕ → List ℕ → LogoutClaims → ℕ → List (Bool × LogoutNo)
conditions issuer client claims at =
    (not (bytes_eq claims.iss issuer), Issuer)
    ∷ (not (is_only client claims.aud), Audience)
    ∷ (nat_le (claims.exp + leeway) at, Expired claims.exp)
    ∷ (nat_lt (claims.iat + oldest) at, TooOld claims.iat)
    ∷ (nat_lt (at + leeway) claims.iat, FromFuture claims.iat) ∷ []

-- the result of verifying the claims of a logout token for a client at a moment
abbrev pub logout_judged : List ℕ → List ℕ → LogoutClaims → ℕ → Result (Unit {0}) LogoutNo
logout_judged issuer client claims at = first_refusal (conditions issuer client claims at)

-- the claims are those of a good logout token of the issuer for the client at this moment
pub record IsGoodLogoutToken (issuer client : List ℕ) (claims : LogoutClaims) (at : ℕ) : Type 0 where
  pub from_issuer : claims.iss ≡ issuer
  pub for_client : IsTrue (is_only client claims.aud)
  pub unexpired : at < claims.exp + leeway
  pub recent : at ≤ claims.iat + oldest
  pub issued : claims.iat ≤ at + leeway
