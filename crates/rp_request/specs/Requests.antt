-- Requests to a relying party and their values, stated literally.
use Rattle.std.specs.Prelude.{◌≡◌, ℕ, List, ◌∷◌, ◌++◌, IsFalse, Option, Some, None, Result, Ok, Err}
use Rattle.sso_base.specs.Lists.{Has}
use Rattle.sso_base.specs.Words.{Text}
use Rattle.sso_base.specs.declared.http.Ask.{Ask}
use Rattle.client_registry.specs.declared.records.Client.{Client}
use Rattle.client_registry.specs.declared.records.Party.{Party}
use Rattle.client_registry.specs.Configuration.{Configuration}
use Rattle.client_registry.specs.Numbers.{party_at}
use Rattle.request_params.specs.Form.{Pair}
use Rattle.request_params.specs.Reading.{has_name}
use Rattle.id_token.specs.declared.claims.IdClaims.{IdClaims}
use Rattle.id_token.specs.declared.no.IdNo.{IdNo}
use Rattle.logout_token.specs.declared.claims.LogoutClaims.{LogoutClaims}
use Rattle.logout_token.specs.declared.no.LogoutNo.{LogoutNo}
use Rattle.rp_exchange.specs.declared.ask.RpAsk.{RpAsk}
use Rattle.rp_exchange.specs.declared.ask.RpAsk.TheVariants as ask
use Rattle.rp_request.specs.declared.routes.Endpoint.{Endpoint}
use Rattle.rp_request.specs.declared.routes.Endpoint.TheVariants as endpoint
use Rattle.rp_request.specs.Routes.{routes_of}
use Rattle.rp_request.specs.Opened.{IsIdTokenFor, IsLogoutTokenFor}
use Rattle.rp_request.specs.Prepared.{logout_path}

-- ---- endpoints

-- the request is to this endpoint of the party with this number: its path is listed for its method, or is that of the party's
-- redirect URI or of its client's logout URI
pub record IsTo (c : Configuration) (n : ℕ) (request : Ask) (e : Endpoint) : Type 0 where
  pub party : Party
  pub there : party_at c n ≡ Some party
  pub listed : Has (routes_of request.method party.redirect_url.path (logout_path c party)) (request.path, e)

-- the endpoint to which a value belongs
abbrev pub own_endpoint : RpAsk → Option Endpoint
own_endpoint (ask.Begin browser) = Some endpoint.Login
own_endpoint ask.Fragment = Some endpoint.Redirection
own_endpoint (ask.Callback heard id browser) = Some endpoint.Redirection
own_endpoint (ask.Visit session) = Some endpoint.Home
own_endpoint (ask.Leave session) = Some endpoint.Leave
own_endpoint (ask.Logout claims) = Some endpoint.Logout
own_endpoint other = None

-- ---- ID Tokens

-- The reading of a text: the claims of the ID Token that it is under a secret of the client, or an error if it is none. Nothing
-- was read if and only if there is no text.
abbrev pub IsOpened : Client → Option Text → Option (Result IdClaims IdNo) → Type 0
IsOpened client None None = Unit {0}
IsOpened client None (Some id) = ⊥
IsOpened client (Some text) None = ⊥
IsOpened client (Some text) (Some (Ok claims)) = IsIdTokenFor client text claims
IsOpened client (Some text) (Some (Err why)) = (claims : IdClaims) → ¬ IsIdTokenFor client text claims

-- ---- logout tokens

-- the pair of this name and this value is one of the pairs, and no other pair has the name
pub record StandsAlone (name value : Text) (pairs : List Pair) : Type 0 where
  pub before : List Pair
  pub after : List Pair
  pub cut : pairs ≡ before ++ (name, value) ∷ after
  pub none_before : IsFalse (has_name name before)
  pub none_after : IsFalse (has_name name after)

-- the reading of a text: the claims of the logout token that it is under a secret of the client, or an error if it is none
abbrev pub IsLogoutOpened : Client → Text → Result LogoutClaims LogoutNo → Type 0
IsLogoutOpened client text (Ok claims) = IsLogoutTokenFor client text claims
IsLogoutOpened client text (Err why) = (claims : LogoutClaims) → ¬ IsLogoutTokenFor client text claims

-- ---- cookies

-- the value has the words of the request's cookies: the first is the browser's, the second the session's
abbrev pub HasCookies : Ask → RpAsk → Type 0
HasCookies request (ask.Begin browser) = browser ≡ request.first
HasCookies request (ask.Callback heard id browser) = browser ≡ request.first
HasCookies request (ask.Visit session) = session ≡ request.second
HasCookies request (ask.Leave session) = session ≡ request.second
HasCookies request other = Unit {0}
