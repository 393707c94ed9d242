-- Requests that follow a location.
use Rattle.std.specs.Prelude.{ℕ, Bool, true, false, List, ◌++◌, Option, Some, option_map, option_and_then}
use Rattle.std.specs.List.{position_from}
use Rattle.std.specs.Str.{bytes_eq}
use Rattle.sso_base.specs.Words.{Text}
use Rattle.sso_base.specs.declared.http.Ask.{Ask}
use Rattle.oidc_words.specs.Paths.{authorize_path}
use Rattle.client_registry.specs.declared.records.Party.{Party}
use Rattle.client_registry.specs.Configuration.{Configuration}
use Rattle.client_registry.specs.Numbers.{party_row}
use Rattle.sso_places.specs.declared.types.Jar.{Jar}
use Rattle.sso_places.specs.declared.types.To.{To}
use Rattle.sso_places.specs.declared.types.To.TheVariants as to
use Rattle.sso_places.specs.declared.types.WorldReply.{WorldReply}
use Rattle.web_requests.specs.declared.sent.Sent.{Sent}
use Rattle.web_requests.specs.declared.location.Location.{Location}
use Rattle.web_requests.specs.declared.location.Location.TheVariants as location
use Rattle.web_requests.specs.Sending.{got, posted, sent}
use Rattle.web_requests.specs.Locations.{location_of}

-- the party with a redirect URI; no two parties share one
abbrev pub party_of_uri : Configuration → Text → Option ℕ
party_of_uri c uri = position_from (λ (party : Party). bytes_eq party.redirect uri) 0 c.parties

-- the role that serves a location
abbrev pub receiver : Configuration → Location → Option To
receiver c (location.Provider query) = Some to.Provider
receiver c (location.Client uri fragment form) = option_map to.Party (party_of_uri c uri)

-- A response at the path of a redirect URI. A form in the query comes with the GET. One in the fragment stays in the browser
-- (RFC 3986, 3.5), and the page that is served there posts it (OpenID Connect Core 1.0, 3.2.2.5 and 15.5.3).
abbrev pub response_ask : Text → Bool → List ℕ → Jar → Ask
response_ask path true form jar = posted path (Some form) jar
response_ask path false form jar = got path form jar

-- an authorization request, to the provider's authorization endpoint
abbrev pub request_sent : Configuration → ℕ → List ℕ → Jar → Sent
request_sent c from query jar = sent from to.Provider (got (c.prefix ++ authorize_path) query jar)

-- a response, to the redirect URI of the party with this number
abbrev pub response_sent : Configuration → ℕ → Bool → List ℕ → Jar → ℕ → Sent
response_sent c from fragment form jar n = sent from (to.Party n) (response_ask (party_row c n).redirect_url.path fragment form jar)

-- the request that follows a location, if a role serves it
unfoldable pub followed : Configuration → ℕ → Location → Jar → Option Sent
followed c from (location.Provider query) jar = Some (request_sent c from query jar)
followed c from (location.Client uri fragment form) jar = option_map (response_sent c from fragment form jar) (party_of_uri c uri)

-- the request that follows the location of a reply
abbrev pub reply_followed : Configuration → ℕ → WorldReply → Jar → Option Sent
reply_followed c from reply jar = option_and_then (λ (l : Location). followed c from l jar) (location_of c reply)
