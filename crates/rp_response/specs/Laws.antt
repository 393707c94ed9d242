-- Laws about the replies that a relying party writes. Each is a clause of a function of `law.rt`, which says it in words.
use Rattle.std.specs.Prelude.{◌≡◌, ℕ, true, false, [], ◌∷◌, ◌++◌, codes, is_some, map}
use Rattle.std.specs.Str.Iter.{HasSubslice}
use Rattle.sso_base.specs.Words.{Text}
use Rattle.http_reply.specs.UserAgent.{cookie_read}
use Rattle.client_registry.specs.Configuration.{Configuration}
use Rattle.client_registry.specs.Numbers.{party_name}
use Rattle.client_registry.specs.Registered.{IsRegistry}
use Rattle.oidc_words.specs.Paths.{leave_path}
use Rattle.rp_exchange.specs.declared.no.RpNo.{RpNo}
use Rattle.rp_exchange.specs.declared.reply.RpReply.{RpReply}
use Rattle.rp_exchange.specs.declared.reply.RpReply.TheVariants as reply
use Rattle.html_pages.specs.Escaping.{escaped}
use Rattle.html_pages.specs.Posting.{control_of, posted, form_posted}
use Rattle.rp_response.specs.Cookies.{browser_cookie, session_cookie}
use Rattle.rp_response.specs.Lines.{line_of}
use Rattle.rp_response.specs.FullPages.{is_of_logout}
use Rattle.rp_response.specs.Telling.{http_of}
use Rattle.http_reply.specs.Told.{AreTaken, kept, sets_cookie}
use Rattle.rp_response.specs.Told.{browser_given, session_given, words_set}

-- ---- cookies

abbrev pub CookiesAreTheWordsOfReplies : Type 0
CookiesAreTheWordsOfReplies =
    (c : Configuration) (n : ℕ) (r : RpReply) → IsRegistry c
    → map cookie_read (http_of c n r).cookies ≡ map (kept c.secure) (words_set c.settings.host_cookies (party_name c n) r)

abbrev pub BrowserCookiesAreSet : Type 0
BrowserCookiesAreSet =
    (c : Configuration) (n : ℕ) (r : RpReply) → IsRegistry c
    → sets_cookie (browser_cookie c.settings.host_cookies (party_name c n)) (http_of c n r).cookies ≡ is_some (browser_given r)

abbrev pub SessionCookiesAreSet : Type 0
SessionCookiesAreSet =
    (c : Configuration) (n : ℕ) (r : RpReply) → IsRegistry c
    → sets_cookie (session_cookie c.settings.host_cookies (party_name c n)) (http_of c n r).cookies ≡ is_some (session_given r)

-- a user agent takes them (RFC 6265bis, 4.1.3.2)
abbrev pub CookiesAreTaken : Type 0
CookiesAreTaken =
    (c : Configuration) (n : ℕ) (r : RpReply) → IsRegistry c → AreTaken c.secure (words_set c.settings.host_cookies (party_name c n) r)

-- ---- errors

abbrev pub PlainErrorsAreTheirLines : Type 0
PlainErrorsAreTheirLines =
    (c : Configuration) (n : ℕ) (why : RpNo) → c.full_pages ≡ false
    → (http_of c n (reply.Refused why)).body ≡ line_of (reply.Refused why) ++ 10 ∷ []

abbrev pub LogoutErrorsAreTheirLines : Type 0
LogoutErrorsAreTheirLines =
    (c : Configuration) (n : ℕ) (why : RpNo) → is_of_logout why ≡ true
    → (http_of c n (reply.Refused why)).body ≡ line_of (reply.Refused why) ++ 10 ∷ []

abbrev pub FullErrorsShowTheirLines : Type 0
FullErrorsShowTheirLines =
    (c : Configuration) (n : ℕ) (why : RpNo) → c.full_pages ≡ true → is_of_logout why ≡ false
    → HasSubslice (http_of c n (reply.Refused why)).body (escaped (line_of (reply.Refused why)))

-- ---- forms

abbrev pub FullFrontPagesLeave : Type 0
FullFrontPagesLeave =
    (c : Configuration) (n : ℕ) (sub : Text) → c.full_pages ≡ true
    → posted (http_of c n (reply.User sub)).body ≡ form_posted leave_path ∷ control_of (codes "button") [] ∷ []
