-- The page at the redirect URI of a response type whose response is in the fragment, in HTML (our choice). A user agent sends
-- no fragment to a server, so a script puts its parameters into a form and posts that to the page's own location (OpenID
-- Connect Core 1.0, 3.2.2.5 and 15.5.3).
use Rattle.std.specs.Prelude.{◌++◌, codes}
use Rattle.sso_base.specs.Words.{Text}

unfoldable pub fragment_page : Text
fragment_page =
    codes "<!doctype html><title>Login</title><form method=\"post\"></form><script>"
    ++ codes "var f=document.forms[0];new URLSearchParams(location.hash.slice(1)).forEach(function(v,k){"
    ++ codes "var i=document.createElement(\"input\");i.type=\"hidden\";i.name=k;i.value=v;f.appendChild(i)});f.submit()</script>"
