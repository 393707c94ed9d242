-- Laws about request objects and tokens. Each is a clause of a function of `requests.rt`, which says it in words.
use Rattle.std.specs.Prelude.{◌≡◌, ℕ, true, List, Ok, Err, codes}
use Rattle.claim_set.specs.Building.{HasNone}
use Rattle.client_registry.specs.declared.records.Client.{Client}
use Rattle.client_registry.specs.Secrets.{has_secret, sealing}
use Rattle.request_params.specs.declared.params.Params.{Params}
use Rattle.id_token.specs.declared.claims.IdClaims.{IdClaims}
use Rattle.id_token.specs.declared.rules.IdRules.{IdRules}
use Rattle.id_token.specs.declared.no.IdNo.TheVariants as id_no
use Rattle.id_token.specs.Reading.{id_read}
use Rattle.id_token.specs.Sealing.{id_text}
use Rattle.id_token.specs.Sealing as id
use Rattle.id_token.specs.Token.{IsIdToken}
use Rattle.id_token.specs.Judging.{IsGoodIdToken}
use Rattle.logout_token.specs.declared.claims.LogoutClaims.{LogoutClaims}
use Rattle.logout_token.specs.declared.no.LogoutNo.TheVariants as logout_no
use Rattle.logout_token.specs.LogoutToken.{logout_read, logout_text}
use Rattle.logout_token.specs.Fitting as logout
use Rattle.logout_token.specs.Token.{IsLogoutToken}
use Rattle.logout_token.specs.Judging.{IsGoodLogoutToken}
use Rattle.request_object.specs.declared.no.ObjNo.TheVariants as obj_no
use Rattle.request_object.specs.Request.{request_text}
use Rattle.request_object.specs.Sealing as request
use Rattle.request_object.specs.Reading.{request_read}
use Rattle.request_object.specs.Object.{IsRequestObject}
use Rattle.token_kinds.specs.Parameters.{parameter_names}

-- ---- request objects

abbrev pub RequestObjectsAreNoIdTokens : Type 0
RequestObjectsAreNoIdTokens =
    (client : Client) (issuer l t : List ℕ) (p : Params) (x : IdClaims) (rules : IdRules) (at : ℕ)
    → ¬ (rules.issuer ≡ client.id) → IsRequestObject client issuer t p → IsIdToken l t x → IsGoodIdToken rules x at → ⊥

abbrev pub RequestObjectsAreNotReadAsIdTokens : Type 0
RequestObjectsAreNotReadAsIdTokens =
    (client : Client) (issuer l t : List ℕ) (p : Params) (x : IdClaims) (rules : IdRules) (at : ℕ)
    → ¬ (rules.issuer ≡ client.id) → request_read client issuer t ≡ Ok p → id_read l t ≡ Ok x → IsGoodIdToken rules x at → ⊥

abbrev pub SealedRequestObjectsAreNoIdTokens : Type 0
SealedRequestObjectsAreNoIdTokens =
    (client : Client) (issuer l : List ℕ) (p : Params) (x : IdClaims) → request.IsSealable client issuer p
    → id_read l (request_text client issuer p) ≡ Ok x → ⊥

abbrev pub RequestObjectsHaveNoSubject : Type 0
RequestObjectsHaveNoSubject =
    (client : Client) (issuer : List ℕ) (p : Params) → request.IsSealable client issuer p
    → id_read (sealing client) (request_text client issuer p) ≡ Err (id_no.Missing (codes "sub"))

abbrev pub RequestObjectsAreNoLogoutTokens : Type 0
RequestObjectsAreNoLogoutTokens =
    (client : Client) (issuer l t : List ℕ) (p : Params) (y : LogoutClaims) (from whom : List ℕ) (at : ℕ) → ¬ (from ≡ client.id)
    → IsRequestObject client issuer t p → IsLogoutToken l t y → IsGoodLogoutToken from whom y at → ⊥

abbrev pub RequestObjectsAreNotReadAsLogoutTokens : Type 0
RequestObjectsAreNotReadAsLogoutTokens =
    (client : Client) (issuer l t : List ℕ) (p : Params) (y : LogoutClaims) (from whom : List ℕ) (at : ℕ) → ¬ (from ≡ client.id)
    → request_read client issuer t ≡ Ok p → logout_read l t ≡ Ok y → IsGoodLogoutToken from whom y at → ⊥

abbrev pub SealedRequestObjectsAreNoLogoutTokens : Type 0
SealedRequestObjectsAreNoLogoutTokens =
    (client : Client) (issuer l : List ℕ) (p : Params) (y : LogoutClaims) → request.IsSealable client issuer p
    → logout_read l (request_text client issuer p) ≡ Ok y → ⊥

abbrev pub RequestObjectsHaveNoTimeOfIssue : Type 0
RequestObjectsHaveNoTimeOfIssue =
    (client : Client) (issuer : List ℕ) (p : Params) → request.IsSealable client issuer p
    → logout_read (sealing client) (request_text client issuer p) ≡ Err (logout_no.Missing (codes "iat"))

-- ---- tokens

abbrev pub IdTokensAreNoRequestObjects : Type 0
IdTokensAreNoRequestObjects =
    (client : Client) (issuer k t : List ℕ) (x : IdClaims) (p : Params) → ¬ (x.iss ≡ client.id) → IsIdToken k t x
    → IsRequestObject client issuer t p → ⊥

abbrev pub IdTokensAreNotReadAsRequestObjects : Type 0
IdTokensAreNotReadAsRequestObjects =
    (client : Client) (issuer k t : List ℕ) (x : IdClaims) (p : Params) → ¬ (x.iss ≡ client.id) → id_read k t ≡ Ok x
    → request_read client issuer t ≡ Ok p → ⊥

abbrev pub SealedIdTokensAreNoRequestObjects : Type 0
SealedIdTokensAreNoRequestObjects =
    (client : Client) (issuer k : List ℕ) (x : IdClaims) (p : Params) → ¬ (x.iss ≡ client.id) → id.IsSealable x
    → request_read client issuer (id_text k x) ≡ Ok p → ⊥

abbrev pub IdTokensAreOfAnotherIssuer : Type 0
IdTokensAreOfAnotherIssuer =
    (client : Client) (issuer k : List ℕ) (x : IdClaims)
    → has_secret k client ≡ true → ¬ (x.iss ≡ client.id) → id.IsSealable x
    → HasNone parameter_names x.more → request_read client issuer (id_text k x) ≡ Err obj_no.Issuer

abbrev pub LogoutTokensAreNoRequestObjects : Type 0
LogoutTokensAreNoRequestObjects =
    (client : Client) (issuer k t : List ℕ) (y : LogoutClaims) (p : Params) → ¬ (y.iss ≡ client.id) → IsLogoutToken k t y
    → IsRequestObject client issuer t p → ⊥

abbrev pub LogoutTokensAreNotReadAsRequestObjects : Type 0
LogoutTokensAreNotReadAsRequestObjects =
    (client : Client) (issuer k t : List ℕ) (y : LogoutClaims) (p : Params) → ¬ (y.iss ≡ client.id) → logout_read k t ≡ Ok y
    → request_read client issuer t ≡ Ok p → ⊥

abbrev pub SealedLogoutTokensAreNoRequestObjects : Type 0
SealedLogoutTokensAreNoRequestObjects =
    (client : Client) (issuer k : List ℕ) (y : LogoutClaims) (p : Params) → ¬ (y.iss ≡ client.id) → logout.IsSealable y
    → request_read client issuer (logout_text k y) ≡ Ok p → ⊥

abbrev pub LogoutTokensAreOfAnotherIssuer : Type 0
LogoutTokensAreOfAnotherIssuer =
    (client : Client) (issuer k : List ℕ) (y : LogoutClaims)
    → has_secret k client ≡ true → ¬ (y.iss ≡ client.id) → logout.IsSealable y
    → request_read client issuer (logout_text k y) ≡ Err obj_no.Issuer
