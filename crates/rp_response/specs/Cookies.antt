-- The cookies that a relying party sets (RFC 6265, 4.1).
use Rattle.std.specs.Prelude.{ℕ, Bool, List, [], ◌∷◌, ◌++◌, codes}
use Rattle.sso_base.specs.Words.{Word, Text}
use Rattle.http_reply.specs.Cookies.{cookie_name, cookie}
use Rattle.client_registry.specs.Configuration.{Configuration}
use Rattle.client_registry.specs.Numbers.{party_name}

-- the name of the cookie of a browser that began a login at the party with this name, and that of a session there, with the prefix
-- `__Host-` or without it
abbrev pub browser_cookie : Bool → Text → Text
browser_cookie host party = cookie_name host (party ++ codes "_b")

abbrev pub session_cookie : Bool → Text → Text
session_cookie host party = cookie_name host (party ++ codes "_s")

-- the cookie of a browser, and that of a session, at the party with this number
abbrev pub browser_cookies : Configuration → ℕ → Word → List Text
browser_cookies c n browser = cookie c.secure (browser_cookie c.settings.host_cookies (party_name c n)) browser ∷ []

abbrev pub session_cookies : Configuration → ℕ → Word → List Text
session_cookies c n session = cookie c.secure (session_cookie c.settings.host_cookies (party_name c n)) session ∷ []
