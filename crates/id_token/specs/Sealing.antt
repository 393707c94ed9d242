-- The sealed text of an ID Token's claims (OpenID Connect Core 1.0, 2; RFC 7515, 7.1).
use Rattle.std.specs.Prelude.{◌≤◌, ◌<◌, ◌^◌, ℕ, List, length, IfSome, IsTrue}
use Rattle.std.specs.Str.{IsUtf8}
use Rattle.sso_base.specs.Values.{AreTexts}
use Rattle.claim_set.specs.Reading.{claims_text}
use Rattle.claim_set.specs.Building.{HasNone}
use Rattle.claim_set.specs.Fitting.{ClaimsFit}
use Rattle.jws_compact.specs.Jws.{seal_text}
use Rattle.jws_compact.specs.declared.sealing.Typ.TheVariants.{Jwt}
use Rattle.id_token.specs.declared.claims.IdClaims.{IdClaims}
use Rattle.id_token.specs.Claims.{id_members, id_names, is_subject}

-- the text of an ID Token under a key
unfoldable pub id_text : List ℕ → IdClaims → List ℕ
id_text k x = seal_text k Jwt (claims_text (id_members x))

-- claims that can be written: each is within its limits, and the whole is short
pub record IsSealable (x : IdClaims) : Type 0 where
  pub others : HasNone id_names x.more
  pub subject : IsTrue (is_subject x.sub)
  pub exp : x.exp < 2 ^ 40
  pub iat : x.iat < 2 ^ 40
  pub auth_time : IfSome x.auth_time (λ n. n < 2 ^ 40)
  pub fits : ClaimsFit (id_members x)
  pub short : length (claims_text (id_members x)) ≤ 6000

-- the texts of the claims are in UTF-8, and the other claims fit
pub record HasTexts (x : IdClaims) : Type 0 where
  pub iss : IsUtf8 x.iss
  pub aud : AreTexts x.aud
  pub azp : IfSome x.azp IsUtf8
  pub nonce : IfSome x.nonce IsUtf8
  pub sid : IfSome x.sid IsUtf8
  pub at_hash : IfSome x.at_hash IsUtf8
  pub c_hash : IfSome x.c_hash IsUtf8
  pub more : ClaimsFit x.more
