-- Refresh requests (RFC 6749, 6). `auth` is the request's `Authorization` header, and `body` its body.
use Rattle.std.specs.Prelude.{ℕ, ◌==◌, Bool, not, ◌&&◌, List, [], ◌∷◌, length, filter, codes, Option, unwrap_or, Result, Ok}
use Rattle.std.specs.Str.{bytes_eq}
use Rattle.sso_base.specs.Lists.{Has}
use Rattle.sso_base.specs.Words.{Text}
use Rattle.sso_base.specs.Refusals.{first_refusal, and_then}
use Rattle.sso_base.specs.Texts.{is_other}
use Rattle.client_registry.specs.Configuration.{Configuration}
use Rattle.request_params.specs.Form.{Pair, form_pairs}
use Rattle.request_params.specs.Reading.{value_of}
use Rattle.token_endpoint.specs.declared.no.GrantNo.{GrantNo}
use Rattle.token_endpoint.specs.declared.no.GrantNo.TheVariants.{OtherGrant}
use Rattle.token_endpoint.specs.Request.{absent, client_asked}
use Rattle.token_endpoint.specs.Granted.{IsOfClient}
use Rattle.refresh_answer.specs.declared.asks.RefreshGrant.{RefreshGrant}

-- the errors of the parameters of a request whose client is known, in order
abbrev pub token_refusals : List Pair → List (Bool × GrantNo)
token_refusals ps =
    (is_other (codes "refresh_token") (value_of (codes "grant_type") ps), OtherGrant)
    ∷ absent (codes "grant_type") ps ∷ absent (codes "refresh_token") ps ∷ []

abbrev pub token_in : List Pair → ℕ → RefreshGrant
token_in ps client = record { client = client; token = unwrap_or (value_of (codes "refresh_token") ps) [] }

-- the request of the client with this number, or the first error that applies
unfoldable pub token_read : List Pair → ℕ → Result RefreshGrant GrantNo
token_read ps client = and_then (first_refusal (token_refusals ps)) (λ _. Ok (token_in ps client))

abbrev pub form_in : Option (List ℕ) → List ℕ
form_in body = unwrap_or body []

abbrev pub form_read : List ℕ → ℕ → Result RefreshGrant GrantNo
form_read form client = token_read (form_pairs form) client

-- the contents of a refresh request, or the first error that applies; the errors of the client come first
unfoldable pub refresh_read : Configuration → Option (List ℕ) → Option (List ℕ) → Result RefreshGrant GrantNo
refresh_read c auth body = and_then (client_asked c auth body) (form_read (form_in body))

-- ---- in the standard's words

-- the request is one of this client with a refresh token: no parameter occurs twice, the client shows a secret of its own, and the grant
-- type and the token are present
pub record IsRefresh (c : Configuration) (auth body : Option (List ℕ)) (grant : RefreshGrant) : Type 0 where
  pub client : IsOfClient c auth body grant.client
  pub grant_type : Has (form_pairs (form_in body)) (codes "grant_type", codes "refresh_token")
  pub token : Has (form_pairs (form_in body)) (codes "refresh_token", grant.token)

-- ---- which token requests are refresh requests

abbrev pub has_name : Text → Pair → Bool
has_name name pair = bytes_eq pair.0 name

abbrev pub count : Text → List Pair → ℕ
count name pairs = length (filter (has_name name) pairs)

-- the only grant type is `refresh_token`
abbrev pub is_refresh_in : List Pair → Bool
is_refresh_in pairs = count (codes "grant_type") pairs == 1 && not (is_other (codes "refresh_token") (value_of (codes "grant_type") pairs))

unfoldable pub is_refresh : List ℕ → Bool
is_refresh form = is_refresh_in (form_pairs form)
