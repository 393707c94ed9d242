-- The endpoint of a request to a relying party, by its method and its path. The paths are fixed, except those of the party's
-- redirect URI and logout URI.
use Rattle.std.specs.Prelude.{List, [], ◌∷◌, Option, Some, None}
use Rattle.sso_base.specs.Words.{Text}
use Rattle.sso_base.specs.declared.http.Method.{Method}
use Rattle.sso_base.specs.declared.http.Method.TheVariants.{Get, Post, Other}
use Rattle.sso_base.specs.declared.http.Ask.{Ask}
use Rattle.oidc_words.specs.Paths.{home_path, begin_path, leave_path}
use Rattle.oidc_words.specs.Routes.{Route, endpoint_of}
use Rattle.rp_request.specs.declared.routes.Endpoint.{Endpoint}
use Rattle.rp_request.specs.declared.routes.Endpoint.TheVariants.{Login, Home, Redirection, Leave, Logout}

abbrev pub get_routes : Text → List (Route Endpoint)
get_routes redirection = (begin_path, Login) ∷ (home_path, Home) ∷ (redirection, Redirection) ∷ []

-- the route of the logout URI, if the party's client has one (OpenID Connect Back-Channel Logout 1.0, 2.2)
abbrev pub logout_routes : Option Text → List (Route Endpoint)
logout_routes None = []
logout_routes (Some logout) = (logout, Logout) ∷ []

abbrev pub post_routes : Text → Option Text → List (Route Endpoint)
post_routes redirection logout = (redirection, Redirection) ∷ (leave_path, Leave) ∷ logout_routes logout

abbrev pub routes_of : Method → Text → Option Text → List (Route Endpoint)
routes_of Get redirection logout = get_routes redirection
routes_of Post redirection logout = post_routes redirection logout
routes_of Other redirection logout = []

-- the endpoint of a request, if the redirect URI and the logout URI have these paths
abbrev pub endpoint_asked : Text → Option Text → Ask → Option Endpoint
endpoint_asked redirection logout request = endpoint_of (routes_of request.method redirection logout) request.path
