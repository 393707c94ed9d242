-- The cookies that the provider sets (RFC 6265, 4.1).
use Rattle.std.specs.Prelude.{Bool, List, [], ◌∷◌, codes, Option, Some, None}
use Rattle.sso_base.specs.Words.{Word, Text}
use Rattle.http_reply.specs.Cookies.{cookie_name, cookie}
use Rattle.client_registry.specs.Configuration.{Configuration}

-- the name of the cookie of a browser that got a form, and that of a session, with the prefix `__Host-` or without it
abbrev pub browser_cookie : Bool → Text
browser_cookie host = cookie_name host (codes "op_b")

abbrev pub session_cookie : Bool → Text
session_cookie host = cookie_name host (codes "op_s")

-- a browser's cookie
abbrev pub browser_cookies : Configuration → Word → List Text
browser_cookies c browser = cookie c.secure (browser_cookie c.settings.host_cookies) browser ∷ []

-- a session's cookie, if a reply has a session word
abbrev pub session_cookies : Configuration → Option Word → List Text
session_cookies c None = []
session_cookies c (Some word) = cookie c.secure (session_cookie c.settings.host_cookies) word ∷ []
