-- Laws about the kinds of sealed texts. Each is a clause of a function of `law.rt` or `requests.rt`, which says it in words.
use Rattle.std.specs.Prelude.{◌≡◌, ℕ, List, Ok, None, codes}
use Rattle.serde_json.specs.Find.{get_member}
use Rattle.id_token.specs.declared.claims.IdClaims.{IdClaims}
use Rattle.id_token.specs.declared.rules.IdRules.{IdRules}
use Rattle.id_token.specs.Reading.{id_read}
use Rattle.id_token.specs.Sealing.{id_text}
use Rattle.id_token.specs.Sealing as id
use Rattle.id_token.specs.Token.{IsIdToken}
use Rattle.id_token.specs.Judging.{IsGoodIdToken}
use Rattle.logout_token.specs.declared.claims.LogoutClaims.{LogoutClaims}
use Rattle.logout_token.specs.LogoutToken.{logout_read, logout_text}
use Rattle.logout_token.specs.Fitting as logout
use Rattle.logout_token.specs.Token.{IsLogoutToken}

-- ---- ID Tokens and logout tokens

abbrev pub LogoutTokensAreNoIdTokens : Type 0
LogoutTokensAreNoIdTokens =
    (k l t : List ℕ) (y : LogoutClaims) (x : IdClaims) (rules : IdRules) (at : ℕ) → IsLogoutToken k t y → IsIdToken l t x
    → IsGoodIdToken rules x at → ⊥

abbrev pub LogoutTokensAreNotReadAsIdTokens : Type 0
LogoutTokensAreNotReadAsIdTokens =
    (k l t : List ℕ) (y : LogoutClaims) (x : IdClaims) (rules : IdRules) (at : ℕ) → logout_read k t ≡ Ok y → id_read l t ≡ Ok x
    → IsGoodIdToken rules x at → ⊥

abbrev pub SealedLogoutTokensAreNoIdTokens : Type 0
SealedLogoutTokensAreNoIdTokens =
    (k l : List ℕ) (y : LogoutClaims) (x : IdClaims) (rules : IdRules) (at : ℕ) → logout.IsSealable y
    → id_read l (logout_text k y) ≡ Ok x → IsGoodIdToken rules x at → ⊥

abbrev pub IdTokensAreNotReadAsLogoutTokens : Type 0
IdTokensAreNotReadAsLogoutTokens =
    (k l t : List ℕ) (x : IdClaims) (y : LogoutClaims) → id_read k t ≡ Ok x → get_member (codes "jti") x.more ≡ None
    → logout_read l t ≡ Ok y → ⊥

abbrev pub SealedIdTokensAreNoLogoutTokens : Type 0
SealedIdTokensAreNoLogoutTokens =
    (k l : List ℕ) (x : IdClaims) (y : LogoutClaims) → id.IsSealable x → get_member (codes "jti") x.more ≡ None
    → logout_read l (id_text k x) ≡ Ok y → ⊥
