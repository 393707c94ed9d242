-- The endpoint of a request to the provider, by its method and its path. The paths are below the path of the issuer (OpenID
-- Connect Discovery 1.0, 4).
use Rattle.std.specs.Prelude.{Bool, true, false, List, [], ◌∷◌, length, take, drop, Option, Some, None, option_and_then, if◌then◌else◌}
use Rattle.std.specs.Str.{bytes_eq}
use Rattle.sso_base.specs.Words.{Text}
use Rattle.sso_base.specs.declared.http.Method.{Method}
use Rattle.sso_base.specs.declared.http.Method.TheVariants.{Get, Post, Other}
use Rattle.sso_base.specs.declared.http.Ask.{Ask}
use Rattle.oidc_words.specs.Paths.{metadata_path, keys_path, authorize_path, token_path, userinfo_path, login_path, consent_path, signout_path}
use Rattle.oidc_words.specs.Routes.{Route, endpoint_of}
use Rattle.op_request.specs.declared.routes.Endpoint.{Endpoint}
use Rattle.op_request.specs.declared.routes.Endpoint.TheVariants.{Metadata, Keys, Authorization, Login, Consent, Token, UserInfo, SignOut}

-- the rest of a path that begins with the prefix
abbrev pub below : Text → Text → Option Text
below prefix path = if bytes_eq (take (length prefix) path) prefix then Some (drop (length prefix) path) else None

abbrev pub get_routes : List (Route Endpoint)
get_routes =
    (metadata_path, Metadata)
    ∷ (keys_path, Keys)
    ∷ (authorize_path, Authorization)
    ∷ (userinfo_path, UserInfo)
    ∷ []

abbrev pub post_routes : List (Route Endpoint)
post_routes =
    (authorize_path, Authorization)
    ∷ (login_path, Login)
    ∷ (consent_path, Consent)
    ∷ (token_path, Token)
    ∷ (userinfo_path, UserInfo)
    ∷ (signout_path, SignOut)
    ∷ []

abbrev pub routes_of : Method → List (Route Endpoint)
routes_of Get = get_routes
routes_of Post = post_routes
routes_of Other = []

-- the endpoint of a request, if the provider's paths are below this prefix
abbrev pub endpoint_asked : Text → Ask → Option Endpoint
endpoint_asked prefix request = option_and_then (endpoint_of (routes_of request.method)) (below prefix request.path)

-- ---- the login, whose reading proves a password

abbrev pub is_login_endpoint : Option Endpoint → Bool
is_login_endpoint (Some Login) = true
is_login_endpoint other = false

-- a request posts the login form
unfoldable pub is_login : Text → Ask → Bool
is_login prefix request = is_login_endpoint (endpoint_asked prefix request)
