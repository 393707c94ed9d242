-- The claims from which a logout token can be written.
use Rattle.std.specs.Prelude.{◌≡◌, ◌≤◌, ◌<◌, ◌^◌, ◌||◌, true, length, is_some, IfSome}
use Rattle.std.specs.Str.{IsUtf8}
use Rattle.sso_base.specs.Values.{AreTexts}
use Rattle.claim_set.specs.Fitting.{ClaimsFit}
use Rattle.claim_set.specs.Reading.{claims_text}
use Rattle.logout_token.specs.declared.claims.LogoutClaims.{LogoutClaims}
use Rattle.logout_token.specs.LogoutToken.{logout_members}

-- the texts among the claims are in UTF-8
pub record HasTexts (x : LogoutClaims) : Type 0 where
  pub iss : IsUtf8 x.iss
  pub aud : AreTexts x.aud
  pub jti : IsUtf8 x.jti
  pub sub : IfSome x.sub IsUtf8
  pub sid : IfSome x.sid IsUtf8

-- the claims can be sealed: they are values of their types, a user or a session is named, and the text is short
pub record IsSealable (x : LogoutClaims) : Type 0 where
  pub fits : ClaimsFit (logout_members x)
  pub short : length (claims_text (logout_members x)) ≤ 6000
  pub names : (is_some x.sub || is_some x.sid) ≡ true
  pub iat : x.iat < 2 ^ 40
  pub exp : x.exp < 2 ^ 40
