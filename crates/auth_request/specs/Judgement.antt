-- Validation of an authorization request: the first row that applies (OpenID Connect Core 1.0, 3.1.2.2, 3.1.2.6, 3.2.2.1 and 6;
-- RFC 6749, 3.1.2.4 and 4.1.2.1).
use Rattle.std.specs.Prelude.{ℕ, Bool, false, not, ◌&&◌, List, [], ◌∷◌, Option, Some, None, is_some, is_none, option_and_then, unwrap_or, slice_get, Result, Ok}
use Rattle.std.specs.Prelude.{Err, if◌then◌else◌}
use Rattle.std.specs.Str.{bytes_eq}
use Rattle.sso_base.specs.Refusals.{first_refusal}
use Rattle.sso_base.specs.Texts.{has_text}
use Rattle.client_registry.specs.declared.records.Client.{Client}
use Rattle.client_registry.specs.Records.{client_place}
use Rattle.oidc_words.specs.Modes.{query_mode, fragment_mode}
use Rattle.oidc_words.specs.Types.{types_of_number, is_in_fragment}
use Rattle.client_registry.specs.Configuration.{Configuration}
use Rattle.client_registry.specs.Numbers.{client_at}
use Rattle.request_params.specs.declared.params.Params.{Params}
use Rattle.auth_request.specs.declared.parameters.Asking.{Asking}
use Rattle.auth_request.specs.declared.wish.Wish.{Wish}
use Rattle.oidc_words.specs.declared.errors.Refusal.{Refusal}
use Rattle.oidc_words.specs.declared.errors.AuthError.{AuthError}
use Rattle.oidc_words.specs.declared.errors.AuthError.TheVariants.{InvalidRequest, UnauthorizedClient, UnsupportedResponseType, InvalidScope}
use Rattle.oidc_words.specs.declared.errors.AuthError.TheVariants.{InvalidRequestObject, RequestUriNotSupported, RegistrationNotSupported}
use Rattle.auth_request.specs.declared.wish.PageNo.{PageNo}
use Rattle.auth_request.specs.declared.wish.PageNo.TheVariants.{Client as NoClient, Redirect as NoRedirect}
use Rattle.auth_request.specs.declared.wish.Verdict.{Verdict}
use Rattle.auth_request.specs.declared.wish.Verdict.TheVariants.{Page, Refuse, Grant}
use Rattle.auth_request.specs.Values.{is_short_nonce}
use Rattle.auth_request.specs.Parameters.{asking_of}

-- ---- conditions

-- the number of the client with the request's `client_id`
abbrev pub client_number : Configuration → Params → Option ℕ
client_number c p = option_and_then (λ id. client_place id c.clients) p.client_id

-- the request's redirect URI, if it is exactly one of the client's (Core 3.1.2.1; RFC 6749, 3.1.2.4)
abbrev pub redirect_of : Client → Option (List ℕ) → Option (List ℕ)
redirect_of k None = None
redirect_of k (Some uri) = if has_text uri k.redirects then Some uri else None

-- the client may request the response type with this number (RFC 6749, 4.1.2.1, unauthorized_client)
abbrev pub may_ask : Client → Option ℕ → Bool
may_ask k None = false
may_ask k (Some n) = unwrap_or (slice_get k.types n) false

-- the response mode of a type (OAuth 2.0 Multiple Response Type Encoding Practices, 2.1)
abbrev pub mode_of : Option ℕ → List ℕ
mode_of n = if is_in_fragment (types_of_number n) then fragment_mode else query_mode

-- the requested response mode is not the type's own (OAuth 2.0 Multiple Response Type Encoding Practices, 2.1)
abbrev pub is_other_mode : Option ℕ → Option (List ℕ) → Bool
is_other_mode n None = false
is_other_mode n (Some mode) = not (bytes_eq mode (mode_of n))

-- an ID Token is requested from the authorization endpoint without a nonce (Core 3.2.2.1), or the nonce is too long
abbrev pub is_bad_nonce : Option ℕ → Option (List ℕ) → Bool
is_bad_nonce n None = (types_of_number n).id_token
is_bad_nonce n (Some nonce) = not (is_short_nonce (Some nonce))

-- ---- the rows

-- the errors of error responses, in order, each with its condition
unfoldable pub errors : Client → Params → Asking → Bool → List (Bool × AuthError)
errors k p a object_refused =
    (is_some p.request_uri, RequestUriNotSupported)  -- Core 3.1.2.6
    ∷ (is_some p.registration, RegistrationNotSupported)  -- Core 3.1.2.6
    ∷ (object_refused, InvalidRequestObject)  -- Core 3.1.2.6
    ∷ (is_none p.response_type, InvalidRequest)  -- RFC 6749, 3.1.1
    ∷ (is_none a.number, UnsupportedResponseType)  -- RFC 6749, 4.1.2.1
    ∷ (not (may_ask k a.number), UnauthorizedClient)  -- RFC 6749, 4.1.2.1
    ∷ (is_other_mode a.number p.response_mode, InvalidRequest)  -- Core 3.1.2.1, response_mode
    ∷ (not a.scopes.openid, InvalidScope)  -- Core 3.1.2.1, scope
    ∷ (is_bad_nonce a.number p.nonce, InvalidRequest)  -- Core 3.2.2.1, nonce
    ∷ (a.prompt.none && a.prompt.others, InvalidRequest)  -- Core 3.1.2.1, prompt
    ∷ (is_some p.max_age && is_none a.max_age, InvalidRequest)  -- Core 3.1.2.1, max_age
    ∷ (not a.claims.fits, InvalidRequest)  -- Core 5.5
    ∷ []

-- an error goes to the redirect URI, with `state`; it is in the fragment if the response type's responses are
abbrev pub refusal_to : List ℕ → Params → Option ℕ → AuthError → Refusal
refusal_to uri p number code =
    record { redirect = uri; fragment = is_in_fragment (types_of_number number); state = p.state; code = code }

abbrev pub refusal_of : List ℕ → Params → Asking → AuthError → Refusal
refusal_of uri p a code = refusal_to uri p a.number code

abbrev pub wish_of : ℕ → List ℕ → Params → Asking → Wish
wish_of n uri p a =
    record {
      client = n;
      redirect = uri;
      types = types_of_number a.number;
      scopes = a.scopes;
      state = p.state;
      nonce = p.nonce;
      none = a.prompt.none;
      login = a.prompt.login;
      consent = a.prompt.consent;
      max_age = a.max_age;
      subs = a.claims.subs;
      id_asked = a.claims.id_asked;
      info_asked = a.claims.info_asked;
    }

-- the first error, or else the wish
abbrev pub answer : ℕ → List ℕ → Params → Asking → Result (Unit {0}) AuthError → Verdict
answer n uri p a (Ok _) = Grant (wish_of n uri p a)
answer n uri p a (Err code) = Refuse (refusal_of uri p a code)

-- the value, or this error page if there is none
abbrev pub page_or : {A : Type 0} → PageNo → Option A → (A → Verdict) → Verdict
page_or why None f = Page why
page_or why (Some a) f = f a

-- the result of validating a request; `object_refused` is true if its request object was rejected
unfoldable pub judgement : Configuration → Params → Bool → Verdict
judgement c p object_refused =
    page_or NoClient (client_number c p) (λ n.
    page_or NoClient (client_at c n) (λ (k : Client).
    page_or NoRedirect (redirect_of k p.redirect_uri) (λ uri.
    answer n uri p (asking_of p) (first_refusal (errors k p (asking_of p) object_refused)))))
