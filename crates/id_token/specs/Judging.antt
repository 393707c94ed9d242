-- Verification of an ID Token (OpenID Connect Core 1.0, 3.1.3.7, 3.2.2.9, 3.3.2.10). Sums have no bound.
use Rattle.std.specs.Prelude.{◌≡◌, ◌<◌, ◌≤◌, ℕ, ◌+◌, List, [], ◌∷◌, Bool, true, false, not, nat_lt, nat_le, Option, Some, None, Result, IfSome, IsTrue, ⊤}
use Rattle.std.specs.Str.{bytes_eq}
use Rattle.sso_base.specs.Texts.{is_only, is_given, is_other}
use Rattle.sso_base.specs.Refusals.{first_refusal}
use Rattle.oidc_words.specs.Lives.{leeway, oldest}
use Rattle.id_token.specs.declared.claims.IdClaims.{IdClaims}
use Rattle.id_token.specs.declared.rules.IdRules.{IdRules}
use Rattle.id_token.specs.declared.rules.Half.{Half}
use Rattle.id_token.specs.declared.rules.Half.TheVariants.{Free, IfThere, Must}
use Rattle.id_token.specs.declared.no.IdNo.{IdNo}
use Rattle.id_token.specs.declared.no.IdNo.TheVariants.{Issuer, Audience, Azp, Expired, TooOld, FromFuture, Nonce, AuthTime, TokenHash, CodeHash}

-- ---- a good ID Token

-- the requirement on a half digest is satisfied (3.1.3.8, 3.2.2.9, 3.3.2.10)
abbrev pub Meets : Half → Option (List ℕ) → Type 0
Meets Free claim = ⊤
Meets (IfThere h) claim = IfSome claim (λ s. s ≡ h)
Meets (Must h) claim = claim ≡ Some h

-- if `max_age` was requested, the user logged in at most that long before the login began, with 60 seconds of leeway
abbrev pub IsInAge : Option ℕ → Option ℕ → ℕ → Type 0
IsInAge None auth_time begun = ⊤
IsInAge (Some age) None begun = ⊥
IsInAge (Some age) (Some auth_time) begun = begun ≤ auth_time + age + leeway

-- the claims x are those of a good ID Token at a moment, for a relying party with these rules
pub record IsGoodIdToken (rules : IdRules) (x : IdClaims) (at : ℕ) : Type 0 where
  pub from_issuer : x.iss ≡ rules.issuer
  pub for_client : IsTrue (is_only rules.client x.aud)
  pub issued_to_client : IfSome x.azp (λ azp. azp ≡ rules.client)
  pub unexpired : at < x.exp + leeway
  pub recent : at ≤ x.iat + oldest
  pub issued : x.iat ≤ at + leeway
  pub nonce : x.nonce ≡ Some rules.nonce
  pub in_age : IsInAge rules.max_age x.auth_time rules.begun
  pub token : Meets rules.token x.at_hash
  pub code : Meets rules.code x.c_hash

-- ---- the errors, in order

-- the requirement on a half digest is violated
abbrev pub breaks : Half → Option (List ℕ) → Bool
breaks Free claim = false
breaks (IfThere h) claim = is_other h claim
breaks (Must h) claim = not (is_given h claim)

-- `max_age` was requested, and the user is not known to have logged in within it, with 60 seconds of leeway (3.1.3.7, 13)
abbrev pub is_late : Option ℕ → Option ℕ → ℕ → Bool
is_late None auth_time begun = false
is_late (Some age) None begun = true
is_late (Some age) (Some auth_time) begun = nat_lt (auth_time + age + leeway) begun

-- the conditions in order, each with its error
abbrev pub conditions : IdRules → IdClaims → ℕ → List (Bool × IdNo)
conditions rules x at =
    (not (bytes_eq x.iss rules.issuer), Issuer)
    ∷ (not (is_only rules.client x.aud), Audience)
    ∷ (is_other rules.client x.azp, Azp)
    ∷ (nat_le (x.exp + leeway) at, Expired x.exp)
    ∷ (nat_lt (x.iat + oldest) at, TooOld x.iat)
    ∷ (nat_lt (at + leeway) x.iat, FromFuture x.iat)
    ∷ (not (is_given rules.nonce x.nonce), Nonce)
    ∷ (is_late rules.max_age x.auth_time rules.begun, AuthTime)
    ∷ (breaks rules.token x.at_hash, TokenHash)
    ∷ (breaks rules.code x.c_hash, CodeHash) ∷ []

-- the result of verifying the claims of an ID Token at a moment
abbrev pub id_judged : IdRules → IdClaims → ℕ → Result (Unit {0}) IdNo
id_judged rules x at = first_refusal (conditions rules x at)
