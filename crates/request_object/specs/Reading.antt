-- The parameters in a request object, or why it is rejected (OpenID Connect Core 1.0, 6.1 and 6.3).
use Rattle.std.specs.Prelude.{ℕ, List, Bool, true, false, not, ◌||◌, Option, Some, None, option_map, is_some, Result, Ok, codes, decimal}
use Rattle.std.specs.Option.{option_or}
use Rattle.serde_json.specs.Data.{Data, Members}
use Rattle.serde_json.specs.Find.{get_member, as_str, as_object}
use Rattle.sso_base.specs.Refusals.{and_then, and_then_as, forbid}
use Rattle.sso_base.specs.Texts.{has_text, is_other}
use Rattle.claim_set.specs.Kinds.{of_kind, small_number, text_claim, texts_claim}
use Rattle.claim_set.specs.Reading.{claims_read, claims_text}
use Rattle.claim_set.specs.declared.no.ClaimNo.{ClaimNo}
use Rattle.claim_set.specs.declared.no.ClaimNo.TheVariants as claims
use Rattle.jws_compact.specs.declared.no.JwsNo.TheVariants as jws
use Rattle.jws_compact.specs.declared.unsealing.Unsealed.{Unsealed}
use Rattle.client_registry.specs.declared.records.Client.{Client}
use Rattle.client_keys.specs.Opening.{verdict_for}
use Rattle.request_params.specs.declared.params.Params.{Params}
use Rattle.request_object.specs.declared.raw.FirstClaims.{FirstClaims}
use Rattle.request_object.specs.declared.raw.LastClaims.{LastClaims}
use Rattle.request_object.specs.declared.raw.RawRequest.{RawRequest}
use Rattle.request_object.specs.declared.no.ObjNo.{ObjNo}
use Rattle.request_object.specs.declared.no.ObjNo.TheVariants.{Jws, Claims, Issuer, Audience, Nested}

-- ---- the claims, each of its kind

-- a number of a claim set in decimal, and the JSON text of an object
abbrev pub digits_in : Data → Option (List ℕ)
digits_in d = option_map decimal (small_number d)

abbrev pub object_text : Data → Option (List ℕ)
object_text d = option_map claims_text (as_object d)

-- a string is its own text; another value may have a text in another form
abbrev pub text_or : (Data → Option (List ℕ)) → Data → Option (List ℕ)
text_or other d = option_or (as_str d) (other d)

-- `max_age`, a string or a number (OpenID Connect Core 1.0, 6.1, has it as a number)
abbrev pub age_claim : Members → Result (Option (List ℕ)) ClaimNo
age_claim ms = of_kind (codes "max_age") (get_member (codes "max_age") ms) (text_or digits_in)

-- `claims`, a string or an object (OpenID Connect Core 1.0, 5.5, has it as an object in a request object)
abbrev pub claims_claim : Members → Result (Option (List ℕ)) ClaimNo
claims_claim ms = of_kind (codes "claims") (get_member (codes "claims") ms) (text_or object_text)

-- the claims, each of which may be absent; the first of another kind, by name, is an error
unfoldable pub first_in : Members → Result FirstClaims ClaimNo
first_in ms =
    and_then (texts_claim (codes "aud") ms) (λ aud.
    and_then (claims_claim ms) (λ claims.
    and_then (text_claim (codes "client_id") ms) (λ client_id.
    and_then (text_claim (codes "iss") ms) (λ iss.
    and_then (age_claim ms) (λ max_age.
    and_then (text_claim (codes "nonce") ms) (λ nonce.
    and_then (text_claim (codes "prompt") ms) (λ prompt.
    Ok (record { aud = aud; claims = claims; client_id = client_id; iss = iss; max_age = max_age; nonce = nonce; prompt = prompt }))))))))

unfoldable pub last_in : Members → Result LastClaims ClaimNo
last_in ms =
    and_then (text_claim (codes "redirect_uri") ms) (λ redirect_uri.
    and_then (text_claim (codes "registration") ms) (λ registration.
    and_then (text_claim (codes "request") ms) (λ request.
    and_then (text_claim (codes "request_uri") ms) (λ request_uri.
    and_then (text_claim (codes "response_mode") ms) (λ response_mode.
    and_then (text_claim (codes "response_type") ms) (λ response_type.
    and_then (text_claim (codes "scope") ms) (λ scope.
    and_then (text_claim (codes "state") ms) (λ state.
    Ok (record {
      redirect_uri = redirect_uri;
      registration = registration;
      request = request;
      request_uri = request_uri;
      response_mode = response_mode;
      response_type = response_type;
      scope = scope;
      state = state;
    })))))))))

abbrev pub raw_in : Members → Result RawRequest ClaimNo
raw_in ms = and_then (first_in ms) (λ first. and_then (last_in ms) (λ last. Ok (record { first = first; last = last })))

-- ---- the errors, in order

-- the texts are present, and the text is not among them
abbrev pub lacks : List ℕ → Option (List (List ℕ)) → Bool
lacks t None = false
lacks t (Some ts) = not (has_text t ts)

-- the parameters, if the object is the client's, for this provider, and contains no request object
unfoldable pub judged : Client → List ℕ → RawRequest → Result Params ObjNo
judged client issuer r =
    forbid Issuer (is_other client.id r.first.iss)
    (forbid Audience (lacks issuer r.first.aud)
    (forbid Nested (is_some r.last.request || is_some r.last.request_uri)
    (Ok (record {
      response_type = r.last.response_type;
      client_id = r.first.client_id;
      redirect_uri = r.last.redirect_uri;
      scope = r.last.scope;
      state = r.last.state;
      nonce = r.first.nonce;
      response_mode = r.last.response_mode;
      prompt = r.first.prompt;
      max_age = r.first.max_age;
      claims = r.first.claims;
      request = r.last.request;
      request_uri = r.last.request_uri;
      registration = r.last.registration;
    }))))

-- the parameters in a claim set
unfoldable pub request_of : Client → List ℕ → Members → Result Params ObjNo
request_of client issuer ms = and_then_as Claims (raw_in ms) (judged client issuer)

-- the parameters in a text as a request object of the client for the issuer, or the first error that applies
unfoldable pub request_read : Client → List ℕ → List ℕ → Result Params ObjNo
request_read client issuer t =
    and_then_as Jws (verdict_for client t) (λ (o : Unsealed). and_then_as Claims (claims_read o.payload) (request_of client issuer))

-- `NoMemory` is wrapped in another error
abbrev pub hides_memory : ObjNo → Bool
hides_memory (Jws jws.NoMemory) = true
hides_memory (Claims claims.NoMemory) = true
hides_memory e = false
