-- Token requests for a code (RFC 6749, 4.1.3; OpenID Connect Core 1.0, 3.1.3.1), read and written. `auth` is the request's
-- `Authorization` header, and `body` its body.
use Rattle.std.specs.Prelude.{ℕ, Bool, List, [], ◌∷◌, ◌++◌, codes, Option, Some, None, is_none, unwrap_or, Result, Ok, Err}
use Rattle.sso_base.specs.Words.{Text}
use Rattle.sso_base.specs.Refusals.{first_refusal, and_then}
use Rattle.sso_base.specs.Texts.{is_other}
use Rattle.sso_base.specs.declared.message.Message.{Message}
use Rattle.client_registry.specs.declared.records.Client.{Client}
use Rattle.client_registry.specs.Configuration.{Configuration}
use Rattle.request_params.specs.Form.{Pair, form_pairs, form_text}
use Rattle.request_params.specs.Reading.{value_of}
use Rattle.token_endpoint.specs.declared.granting.Grant.{Grant}
use Rattle.token_endpoint.specs.declared.no.GrantNo.{GrantNo}
use Rattle.token_endpoint.specs.declared.no.GrantNo.TheVariants.{BadForm, OtherGrant, Missing}
use Rattle.token_endpoint.specs.Basic.{basic_header, basic_auth}
use Rattle.token_endpoint.specs.Authentication.{client_refusals, client_read}

-- ---- reading

abbrev pub absent : Text → List Pair → Bool × GrantNo
absent name ps = (is_none (value_of name ps), Missing name)

-- the errors of the parameters of a request whose client is known, in order
abbrev pub code_refusals : List Pair → List (Bool × GrantNo)
code_refusals ps =
    (is_other (codes "authorization_code") (value_of (codes "grant_type") ps), OtherGrant)
    ∷ absent (codes "grant_type") ps ∷ absent (codes "code") ps ∷ absent (codes "redirect_uri") ps ∷ []

abbrev pub grant_in : List Pair → ℕ → Grant
grant_in ps client = record {
  client = client;
  code = unwrap_or (value_of (codes "code") ps) [];
  redirect = unwrap_or (value_of (codes "redirect_uri") ps) [];
}

-- the request of the client with this number, or the first error that applies
unfoldable pub code_read : List Pair → ℕ → Result Grant GrantNo
code_read ps client = and_then (first_refusal (code_refusals ps)) (λ _. Ok (grant_in ps client))

-- all errors of a request with these parameters, in order
abbrev pub grant_refusals : Configuration → Option (List ℕ) → List Pair → List (Bool × GrantNo)
grant_refusals c auth ps = client_refusals c (basic_header auth) ps ++ code_refusals ps

-- the number of the client that a request authenticates, or the first error that applies to its client
unfoldable pub client_asked : Configuration → Option (List ℕ) → Option (List ℕ) → Result ℕ GrantNo
client_asked c auth None = Err BadForm
client_asked c auth (Some form) = client_read c auth (form_pairs form)

-- the contents of a token request, or the first error that applies
unfoldable pub grant_read : Configuration → Option (List ℕ) → Option (List ℕ) → Result Grant GrantNo
grant_read c auth None = Err BadForm
grant_read c auth (Some form) = and_then (client_read c auth (form_pairs form)) (code_read (form_pairs form))

-- ---- writing

abbrev pub grant_pairs : Text → Text → List Pair
grant_pairs code redirect =
    (codes "grant_type", codes "authorization_code") ∷ (codes "code", code) ∷ (codes "redirect_uri", redirect) ∷ []

-- a client's token request for a code, by HTTP Basic
unfoldable pub token_message : Client → Text → Text → Text → Message
token_message client endpoint code redirect = record {
  to = endpoint;
  auth = Some (basic_auth client);
  body = Some (form_text (grant_pairs code redirect));
}
