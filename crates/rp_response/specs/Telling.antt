-- A relying party's replies in HTTP (RFC 9110; OpenID Connect Core 1.0, 3.1.2.1 and 3.2.2.5; OpenID Connect Back-Channel Logout
-- 1.0, 2.8).
use Rattle.std.specs.Prelude.{ℕ, Bool, [], ◌∷◌, ◌++◌, codes}
use Rattle.sso_base.specs.Words.{Word, Text}
use Rattle.sso_base.specs.declared.http.HttpReply.{HttpReply}
use Rattle.http_reply.specs.Replies.{html, plain, empty, sent_to}
use Rattle.html_pages.specs.Documents.{shown}
use Rattle.client_registry.specs.Configuration.{Configuration}
use Rattle.client_registry.specs.Numbers.{party_client}
use Rattle.rp_exchange.specs.declared.no.RpNo.{RpNo}
use Rattle.rp_exchange.specs.declared.no.RpNo.TheVariants as no
use Rattle.rp_exchange.specs.declared.reply.RpReply.{RpReply}
use Rattle.rp_exchange.specs.declared.reply.RpReply.TheVariants as reply
use Rattle.oidc_words.specs.Paths.{home_path}
use Rattle.rp_response.specs.Cookies.{browser_cookies, session_cookies}
use Rattle.rp_response.specs.Page.{fragment_page}
use Rattle.rp_response.specs.Refusals.{refusal_line}
use Rattle.rp_response.specs.FullPages.{user_page, nobody_page, left_page, refused_page}

-- ---- logins, at the party with this number

abbrev pub asked : Configuration → ℕ → Text → Word → HttpReply
asked c n to browser = sent_to to (browser_cookies c n browser)

abbrev pub entered : Configuration → ℕ → Word → HttpReply
entered c n session = sent_to home_path (session_cookies c n session)

abbrev pub fragment : HttpReply
fragment = html [] fragment_page

-- ---- pages, or lines, of the party with this number

abbrev pub party_title : Configuration → ℕ → Text
party_title c n = (party_client c n).title

abbrev pub user : Configuration → ℕ → Text → HttpReply
user c n sub = shown 200 (user_page c.full_pages (party_title c n) sub) (codes "user " ++ sub)

abbrev pub nobody : Configuration → ℕ → HttpReply
nobody c n = shown 200 (nobody_page c.full_pages (party_title c n)) (codes "nobody")

abbrev pub left : Configuration → ℕ → HttpReply
left c n = shown 200 (left_page c.full_pages (party_title c n)) (codes "left")

-- ---- errors

abbrev pub refused_status : RpNo → ℕ
refused_status (no.Full table) = 503
refused_status other = 400

abbrev pub refused : Configuration → ℕ → RpNo → HttpReply
refused c n why = shown (refused_status why) (refused_page c.full_pages (party_title c n) why) (refusal_line why)

-- ---- each reply, at the party with this number

unfoldable pub http_of : Configuration → ℕ → RpReply → HttpReply
http_of c n (reply.Ask to browser) = asked c n to browser
http_of c n reply.Fragment = fragment
http_of c n (reply.Exchange pending message) = plain 502 (codes "pending")
http_of c n (reply.Fetch pending message) = plain 502 (codes "pending")
http_of c n (reply.Entered session sub) = entered c n session
http_of c n (reply.User sub) = user c n sub
http_of c n reply.Nobody = nobody c n
http_of c n (reply.Left ended) = left c n
http_of c n (reply.Ended count) = empty
http_of c n (reply.Refused why) = refused c n why
http_of c n reply.NotHere = plain 404 (codes "not here")
