-- The cookies of replies, as a user agent reads them.
use Rattle.std.proofs.Common.{◌≡◌, ℕ, Bool, true, false, ◌++◌, List, [], ◌∷◌, map, codes, Option, is_some, refl, ap, ◌∙◌}
use Rattle.std.specs.List.{list_any}
use Rattle.sso_base.specs.Words.{Text}
use Rattle.http_reply.specs.UserAgent.{SetCookie, cookie_read}
use Rattle.http_reply.proofs.Reading.{read_of_cookie}
use Rattle.client_registry.specs.Configuration.{Configuration}
use Rattle.client_registry.specs.Numbers.{party_name}
use Rattle.client_registry.specs.Registered.{IsRegistry}
use Rattle.rp_exchange.specs.declared.reply.RpReply.{RpReply}
use Rattle.rp_exchange.specs.declared.reply.RpReply.TheVariants as reply
use Rattle.rp_response.specs.Cookies.{browser_cookie, session_cookie}
use Rattle.rp_response.specs.Telling.{http_of}
use Rattle.http_reply.specs.Told.{kept, is_under, sets_cookie, AreTaken}
use Rattle.rp_response.specs.Told.{browser_given, session_given, words_set}
use Rattle.http_reply.proofs.Names.{prefixed_test, session_found, browser_found, words_taken}
use Rattle.rp_response.proofs.CookieNames.{browser_name, session_name, browser_is_taken, session_is_taken, ends_differ, is_itself}

-- ---- what is read

pub cookies_read : (c : Configuration) (n : ℕ) (r : RpReply) → IsRegistry c → map cookie_read (http_of c n r).cookies ≡ map (kept c.secure) (words_set c.settings.host_cookies (party_name c n) r)
unfolding http_of
cookies_read c n (reply.Ask to browser) is =
    ap (λ (read : Option SetCookie). read ∷ []) (read_of_cookie c.secure (browser_cookie c.settings.host_cookies (party_name c n)) browser (browser_name c n is))
cookies_read c n (reply.Entered session sub) is =
    ap (λ (read : Option SetCookie). read ∷ []) (read_of_cookie c.secure (session_cookie c.settings.host_cookies (party_name c n)) session (session_name c n is))
cookies_read c n other is = refl

-- ---- which cookies are set

any_read : (name : Text) (cookies : List Text) → sets_cookie name cookies ≡ list_any (is_under name) (map cookie_read cookies)
any_read name [] = refl
any_read name (t ∷ cookies) = rw (any_read name cookies) refl

set_by_words : (name : Text) (c : Configuration) (n : ℕ) (r : RpReply) → IsRegistry c
    → sets_cookie name (http_of c n r).cookies ≡ list_any (is_under name) (map (kept c.secure) (words_set c.settings.host_cookies (party_name c n) r))
set_by_words name c n r is = any_read name (http_of c n r).cookies ∙ ap (list_any (is_under name)) (cookies_read c n r is)

pub browser_set_if_given : (c : Configuration) (n : ℕ) (r : RpReply) → IsRegistry c → sets_cookie (browser_cookie c.settings.host_cookies (party_name c n)) (http_of c n r).cookies ≡ is_some (browser_given r)
browser_set_if_given c n r is =
    let host : Bool = c.settings.host_cookies in
    let name : Text = party_name c n in
    set_by_words (browser_cookie host name) c n r is
    ∙ browser_found c.secure (browser_cookie host name) (session_cookie host name)
    (prefixed_test host (name ++ codes "_s") (name ++ codes "_b") false (ends_differ name (codes "_s") (codes "_b") refl))
    (prefixed_test host (name ++ codes "_b") (name ++ codes "_b") true (is_itself (name ++ codes "_b"))) (browser_given r) (session_given r)

pub session_set_if_given : (c : Configuration) (n : ℕ) (r : RpReply) → IsRegistry c → sets_cookie (session_cookie c.settings.host_cookies (party_name c n)) (http_of c n r).cookies ≡ is_some (session_given r)
session_set_if_given c n r is =
    let host : Bool = c.settings.host_cookies in
    let name : Text = party_name c n in
    set_by_words (session_cookie host name) c n r is
    ∙ session_found c.secure (browser_cookie host name) (session_cookie host name)
    (prefixed_test host (name ++ codes "_b") (name ++ codes "_s") false (ends_differ name (codes "_b") (codes "_s") refl))
    (prefixed_test host (name ++ codes "_s") (name ++ codes "_s") true (is_itself (name ++ codes "_s"))) (browser_given r) (session_given r)

-- ---- which cookies are taken

pub cookies_taken : (c : Configuration) (n : ℕ) (r : RpReply) → IsRegistry c → AreTaken c.secure (words_set c.settings.host_cookies (party_name c n) r)
cookies_taken c n r is =
    words_taken c.secure (browser_cookie c.settings.host_cookies (party_name c n)) (session_cookie c.settings.host_cookies (party_name c n))
    (λ w. browser_is_taken c n w is) (λ w. session_is_taken c n w is) (browser_given r) (session_given r)
