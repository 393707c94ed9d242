-- The parameters from which a request object can be written.
use Rattle.std.specs.Prelude.{◌≡◌, ◌≤◌, ℕ, List, length, None, IfSome}
use Rattle.std.specs.Str.{IsUtf8}
use Rattle.claim_set.specs.Reading.{claims_text}
use Rattle.claim_set.specs.Fitting.{ClaimsFit}
use Rattle.client_registry.specs.declared.records.Client.{Client}
use Rattle.request_params.specs.declared.params.Params.{Params}
use Rattle.request_object.specs.Request.{request_members}

-- the parameters can be sealed: the claims fit, their text is short, and what a request object must not contain is absent
pub record IsSealable (client : Client) (issuer : List ℕ) (p : Params) : Type 0 where
  pub fits : ClaimsFit (request_members client issuer p)
  pub short : length (claims_text (request_members client issuer p)) ≤ 6000
  pub request : p.request ≡ None
  pub request_uri : p.request_uri ≡ None
  pub registration : p.registration ≡ None

-- the client's identifier, the issuer and the parameters are in UTF-8
pub record HasTexts (client : Client) (issuer : List ℕ) (p : Params) : Type 0 where
  pub id : IsUtf8 client.id
  pub issuer_text : IsUtf8 issuer
  pub response_type : IfSome p.response_type IsUtf8
  pub client_id : IfSome p.client_id IsUtf8
  pub redirect_uri : IfSome p.redirect_uri IsUtf8
  pub scope : IfSome p.scope IsUtf8
  pub state : IfSome p.state IsUtf8
  pub nonce : IfSome p.nonce IsUtf8
  pub response_mode : IfSome p.response_mode IsUtf8
  pub prompt : IfSome p.prompt IsUtf8
  pub max_age : IfSome p.max_age IsUtf8
  pub claims : IfSome p.claims IsUtf8
