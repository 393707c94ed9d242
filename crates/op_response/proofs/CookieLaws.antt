-- The cookies of replies, as a user agent reads them.
use Rattle.std.proofs.Common.{◌≡◌, Bool, true, false, List, [], ◌∷◌, map, codes, Option, Some, None, is_some, refl, ap, ◌∙◌}
use Rattle.std.specs.List.{list_any}
use Rattle.sso_base.specs.Words.{Word, Text}
use Rattle.http_reply.specs.UserAgent.{SetCookie, is_cookie_name, cookie_read}
use Rattle.http_reply.specs.Cookies.{cookie}
use Rattle.http_reply.proofs.Reading.{read_of_cookie}
use Rattle.http_reply.proofs.Names.{prefixed_name, prefixed_test, taken, session_found, browser_found, words_taken}
use Rattle.client_registry.specs.Configuration.{Configuration}
use Rattle.client_registry.specs.Registered.{IsRegistry}
use Rattle.token_endpoint.specs.declared.error.TokenError.TheVariants.{InvalidClient}
use Rattle.op_exchange.specs.declared.reply.OpReply.{OpReply}
use Rattle.op_exchange.specs.declared.reply.OpReply.TheVariants as reply
use Rattle.op_exchange.specs.Replied.{session_given}
use Rattle.op_response.specs.Cookies.{browser_cookie, session_cookie, session_cookies}
use Rattle.op_response.specs.Telling.{http_of}
use Rattle.http_reply.specs.Told.{words_named, kept, is_under, sets_cookie, AreTaken}
use Rattle.op_response.specs.Told.{browser_given, words_set}

-- ---- names

pub browser_name : (host : Bool) → is_cookie_name (browser_cookie host) ≡ true
browser_name host = prefixed_name host (codes "op_b") refl

pub session_name : (host : Bool) → is_cookie_name (session_cookie host) ≡ true
session_name host = prefixed_name host (codes "op_s") refl

-- ---- what is read

session_read : (c : Configuration) (given : Option Word) → map cookie_read (session_cookies c given) ≡ map (kept c.secure) (words_named (session_cookie c.settings.host_cookies) given)
session_read c None = refl
session_read c (Some w) =
    ap (λ (read : Option SetCookie). read ∷ []) (read_of_cookie c.secure (session_cookie c.settings.host_cookies) w (session_name c.settings.host_cookies))

browser_read : (c : Configuration) (w : Word) (rest : List (Option SetCookie)) → cookie_read (cookie c.secure (browser_cookie c.settings.host_cookies) w) ∷ rest ≡ kept c.secure (browser_cookie c.settings.host_cookies, w) ∷ rest
browser_read c w rest =
    ap (λ (read : Option SetCookie). read ∷ rest) (read_of_cookie c.secure (browser_cookie c.settings.host_cookies) w (browser_name c.settings.host_cookies))

pub cookies_read : (c : Configuration) (r : OpReply) → map cookie_read (http_of c r).cookies ≡ map (kept c.secure) (words_set c.settings.host_cookies r)
unfolding http_of
cookies_read c (reply.LoginPage turn browser again) = browser_read c browser []
cookies_read c (reply.ConsentPage turn browser given client scopes) =
    browser_read c browser (map cookie_read (session_cookies c given))
    ∙ ap (λ (reads : List (Option SetCookie)). kept c.secure (browser_cookie c.settings.host_cookies, browser) ∷ reads) (session_read c given)
cookies_read c (reply.Answered answer given) = session_read c given
cookies_read c (reply.Refused refusal given) = session_read c given
cookies_read c (reply.TokenRefused InvalidClient) = refl
cookies_read c (reply.TokenRefused other) = refl
cookies_read c other = refl

-- ---- which cookies are set

any_read : (name : Text) (cookies : List Text) → sets_cookie name cookies ≡ list_any (is_under name) (map cookie_read cookies)
any_read name [] = refl
any_read name (t ∷ cookies) = rw (any_read name cookies) refl

set_by_words : (name : Text) (c : Configuration) (r : OpReply) → sets_cookie name (http_of c r).cookies ≡ list_any (is_under name) (map (kept c.secure) (words_set c.settings.host_cookies r))
set_by_words name c r = any_read name (http_of c r).cookies ∙ ap (list_any (is_under name)) (cookies_read c r)

pub session_set_if_given : (c : Configuration) (r : OpReply) → sets_cookie (session_cookie c.settings.host_cookies) (http_of c r).cookies ≡ is_some (session_given r)
session_set_if_given c r =
    let host : Bool = c.settings.host_cookies in
    set_by_words (session_cookie host) c r
    ∙ session_found c.secure (browser_cookie host) (session_cookie host) (prefixed_test host (codes "op_b") (codes "op_s") false refl)
    (prefixed_test host (codes "op_s") (codes "op_s") true refl) (browser_given r) (session_given r)

pub browser_set_if_given : (c : Configuration) (r : OpReply) → sets_cookie (browser_cookie c.settings.host_cookies) (http_of c r).cookies ≡ is_some (browser_given r)
browser_set_if_given c r =
    let host : Bool = c.settings.host_cookies in
    set_by_words (browser_cookie host) c r
    ∙ browser_found c.secure (browser_cookie host) (session_cookie host) (prefixed_test host (codes "op_s") (codes "op_b") false refl)
    (prefixed_test host (codes "op_b") (codes "op_b") true refl) (browser_given r) (session_given r)

-- ---- which cookies are taken

pub cookies_taken : (c : Configuration) (r : OpReply) → IsRegistry c → AreTaken c.secure (words_set c.settings.host_cookies r)
cookies_taken c r is =
    let host : Bool = c.settings.host_cookies in
    words_taken c.secure (browser_cookie host) (session_cookie host) (λ w. taken c.secure host (codes "op_b") w is.settings.issuer_https refl)
    (λ w. taken c.secure host (codes "op_s") w is.settings.issuer_https refl) (browser_given r) (session_given r)
