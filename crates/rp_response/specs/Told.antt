-- The cookies and the contents of a relying party's replies, as a user agent reads them.
use Rattle.std.specs.Prelude.{Bool, true, false, List, ◌++◌, Option, Some, None}
use Rattle.sso_base.specs.Words.{Word, Text}
use Rattle.http_reply.specs.Told.{Named, words_named}
use Rattle.rp_exchange.specs.declared.no.RpNo.{RpNo}
use Rattle.rp_exchange.specs.declared.no.RpNo.TheVariants.{Full}
use Rattle.rp_exchange.specs.declared.reply.RpReply.{RpReply}
use Rattle.rp_exchange.specs.declared.reply.RpReply.TheVariants.{Ask, Entered}
use Rattle.rp_response.specs.Cookies.{browser_cookie, session_cookie}

-- ---- words that a reply sets

-- the browser word at the start of a login
abbrev pub browser_given : RpReply → Option Word
browser_given (Ask to browser) = Some browser
browser_given reply = None

-- the session word of a new session
abbrev pub session_given : RpReply → Option Word
session_given (Entered session sub) = Some session
session_given reply = None

-- the words that a reply of the party with this name sets, under names with the prefix `__Host-` or without it
abbrev pub words_set : Bool → Text → RpReply → List Named
words_set host party reply = words_named (browser_cookie host party) (browser_given reply) ++ words_named (session_cookie host party) (session_given reply)

-- ---- redirects, and errors because a table is full

abbrev pub sends_on : RpReply → Bool
sends_on (Ask to browser) = true
sends_on (Entered session sub) = true
sends_on reply = false

abbrev pub is_full : RpNo → Bool
is_full (Full table) = true
is_full why = false
