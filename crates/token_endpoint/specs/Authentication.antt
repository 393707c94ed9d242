-- Client authentication at the token endpoint: by HTTP Basic, or by parameters of the request (RFC 6749, 2.3.1; OpenID Connect
-- Core 1.0, 9). `basic` is the request's `Authorization` header, where its scheme is `Basic`, and `ps` are its parameters.
use Rattle.std.specs.Prelude.{ℕ, Bool, false, not, ◌&&◌, List, [], ◌∷◌, codes, Option, Some, None, option_map, option_and_then, is_some, is_none, unwrap_or}
use Rattle.std.specs.Prelude.{Result, Ok, if◌then◌else◌}
use Rattle.sso_base.specs.Words.{Text}
use Rattle.sso_base.specs.Refusals.{first_refusal, and_then}
use Rattle.sso_base.specs.Texts.{is_other}
use Rattle.client_registry.specs.declared.records.Client.{Client}
use Rattle.client_registry.specs.Configuration.{Configuration}
use Rattle.client_registry.specs.Numbers.{client_at}
use Rattle.client_registry.specs.Records.{client_place}
use Rattle.client_registry.specs.Secrets.{has_secret}
use Rattle.request_params.specs.Form.{Pair}
use Rattle.request_params.specs.Reading.{value_of, first_repeated}
use Rattle.token_endpoint.specs.declared.basic.Credentials.{Credentials}
use Rattle.token_endpoint.specs.declared.no.GrantNo.{GrantNo}
use Rattle.token_endpoint.specs.declared.no.GrantNo.TheVariants.{Twice, TwoAuths, NoAuth, WrongClient}
use Rattle.token_endpoint.specs.Basic.{basic_header, basic_read}

-- ---- parameters

-- a parameter of the name is there, whatever its value
abbrev pub is_there : Text → List Pair → Bool
is_there name ps = is_some (value_of name ps)

-- ---- the client

abbrev pub is_secret_of : Text → Option Client → Bool
is_secret_of secret None = false
is_secret_of secret (Some client) = has_secret secret client

abbrev pub if_secret : Configuration → Text → ℕ → Option ℕ
if_secret c secret n = if is_secret_of secret (client_at c n) then Some n else None

-- the number of the client that has this id and this secret, as its secret or its old one
abbrev pub client_with : Configuration → Credentials → Option ℕ
client_with c shown = option_and_then (if_secret c shown.secret) (client_place shown.id c.clients)

-- the same, unless another client is named
abbrev pub unless_other : Configuration → Option Text → Credentials → Option ℕ
unless_other c named shown = if is_other shown.id named then None else client_with c shown

abbrev pub credentials : Text → Text → Credentials
credentials id secret = record { id = id; secret = secret }

-- the id and the secret among the parameters (`client_secret_post`)
abbrev pub posted : List Pair → Option Credentials
posted ps = option_and_then (λ id. option_map (credentials id) (value_of (codes "client_secret") ps)) (value_of (codes "client_id") ps)

-- the number of the client whose id and secret a request shows
abbrev pub client_shown : Configuration → Option (List ℕ) → List Pair → Option ℕ
client_shown c None ps = option_and_then (client_with c) (posted ps)
client_shown c (Some header) ps = option_and_then (unless_other c (value_of (codes "client_id") ps)) (basic_read header)

-- ---- the refusals, in order

abbrev pub client_refusals : Configuration → Option (List ℕ) → List Pair → List (Bool × GrantNo)
client_refusals c basic ps =
    (is_some (first_repeated ps), Twice (unwrap_or (first_repeated ps) []))
    ∷ (is_some basic && is_there (codes "client_secret") ps, TwoAuths)
    ∷ (is_none basic && not (is_there (codes "client_id") ps && is_there (codes "client_secret") ps), NoAuth)
    ∷ (is_none (client_shown c basic ps), WrongClient) ∷ []

-- the number of the client that a request authenticates, or the first refusal that fits
unfoldable pub client_read : Configuration → Option (List ℕ) → List Pair → Result ℕ GrantNo
client_read c auth ps =
    and_then (first_refusal (client_refusals c (basic_header auth) ps)) (λ _. Ok (unwrap_or (client_shown c (basic_header auth) ps) 0))
