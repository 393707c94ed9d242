-- What a request object is, in the standard's words: a claim set, sealed under a secret of the client, that contains the
-- parameters of an authorization request (OpenID Connect Core 1.0, 6.1). Then the errors for other texts, in order.
use Rattle.std.specs.Prelude.{◌≡◌, ◌⊎◌, ℕ, List, [], ◌∷◌, Bool, ◌||◌, Option, Some, None, option_map, option_and_then, is_some, codes, IsTrue, IfSome}
use Rattle.sso_base.specs.Texts.{has_text, is_other}
use Rattle.serde_json.specs.Data.{Data, string, Members}
use Rattle.serde_json.specs.Find.{get_member, as_str}
use Rattle.claim_set.specs.Kinds.{data_texts, another_kind}
use Rattle.claim_set.specs.Reading.{Reads}
use Rattle.client_registry.specs.declared.records.Client.{Client}
use Rattle.client_keys.specs.Opening.{SealedFor}
use Rattle.request_params.specs.declared.params.Params.{Params}
use Rattle.request_object.specs.declared.no.ObjNo.{ObjNo}
use Rattle.request_object.specs.declared.no.ObjNo.TheVariants.{Claims, Issuer, Audience, Nested}
use Rattle.request_object.specs.Reading.{digits_in, object_text, text_or, lacks}

-- the value is this string, or an array of strings that contains it (RFC 7519, 4.1.3)
abbrev pub IsFor : List ℕ → Data → Type 0
IsFor t d = (ts : List (List ℕ)) × (data_texts d ≡ Some ts) × IsTrue (has_text t ts)

-- the parameter is absent, or its value is this string, or another form of this text
abbrev pub StandsAs : (Data → Option (List ℕ)) → Option Data → Option (List ℕ) → Type 0
StandsAs other None v = v ≡ None
StandsAs other (Some d) None = ⊥
StandsAs other (Some d) (Some s) = (d ≡ string s) ⊎ (other d ≡ Some s)

-- the claim set contains the parameters p, each under its name; `iss`, if present, is the client, and `aud`, if present, has
-- the issuer
pub record HasRequest (client : Client) (issuer : List ℕ) (ms : Members) (p : Params) : Type 0 where
  pub from_client : IfSome (get_member (codes "iss") ms) (λ d. d ≡ string client.id)
  pub for_issuer : IfSome (get_member (codes "aud") ms) (λ d. IsFor issuer d)
  pub response_type : get_member (codes "response_type") ms ≡ option_map string p.response_type
  pub client_id : get_member (codes "client_id") ms ≡ option_map string p.client_id
  pub redirect_uri : get_member (codes "redirect_uri") ms ≡ option_map string p.redirect_uri
  pub scope : get_member (codes "scope") ms ≡ option_map string p.scope
  pub state : get_member (codes "state") ms ≡ option_map string p.state
  pub nonce : get_member (codes "nonce") ms ≡ option_map string p.nonce
  pub response_mode : get_member (codes "response_mode") ms ≡ option_map string p.response_mode
  pub prompt : get_member (codes "prompt") ms ≡ option_map string p.prompt
  pub max_age : StandsAs digits_in (get_member (codes "max_age") ms) p.max_age
  pub claims : StandsAs object_text (get_member (codes "claims") ms) p.claims
  pub registration : get_member (codes "registration") ms ≡ option_map string p.registration
  pub no_request : get_member (codes "request") ms ≡ None
  pub no_request_uri : get_member (codes "request_uri") ms ≡ None
  pub request : p.request ≡ None
  pub request_uri : p.request_uri ≡ None

-- the text t is a request object of the client for the issuer, with the parameters p
pub record IsRequestObject (client : Client) (issuer t : List ℕ) (p : Params) : Type 0 where
  pub header : List ℕ
  pub payload : List ℕ
  pub claims : Members
  pub sealed : SealedFor client header payload t
  pub reads : Reads payload claims
  pub has : HasRequest client issuer claims p

-- ---- the errors of a claim set: first the claims of another kind, in the order of their names, then the others

abbrev pub request_refusals : Client → List ℕ → Members → List (Bool × ObjNo)
request_refusals client issuer ms =
    another_kind Claims (codes "aud") data_texts ms
    ∷ another_kind Claims (codes "claims") (text_or object_text) ms
    ∷ another_kind Claims (codes "client_id") as_str ms
    ∷ another_kind Claims (codes "iss") as_str ms
    ∷ another_kind Claims (codes "max_age") (text_or digits_in) ms
    ∷ another_kind Claims (codes "nonce") as_str ms
    ∷ another_kind Claims (codes "prompt") as_str ms
    ∷ another_kind Claims (codes "redirect_uri") as_str ms
    ∷ another_kind Claims (codes "registration") as_str ms
    ∷ another_kind Claims (codes "request") as_str ms
    ∷ another_kind Claims (codes "request_uri") as_str ms
    ∷ another_kind Claims (codes "response_mode") as_str ms
    ∷ another_kind Claims (codes "response_type") as_str ms
    ∷ another_kind Claims (codes "scope") as_str ms
    ∷ another_kind Claims (codes "state") as_str ms
    ∷ (is_other client.id (option_and_then as_str (get_member (codes "iss") ms)), Issuer)
    ∷ (lacks issuer (option_and_then data_texts (get_member (codes "aud") ms)), Audience)
    ∷ (is_some (get_member (codes "request") ms) || is_some (get_member (codes "request_uri") ms), Nested) ∷ []
