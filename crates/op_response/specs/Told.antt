-- The cookies and the contents of the provider's replies, as a user agent reads them.
use Rattle.std.specs.Prelude.{ℕ, ◌==◌, ◌||◌, Bool, true, false, List, ◌++◌, Option, Some, None}
use Rattle.std.specs.List.{list_any}
use Rattle.sso_base.specs.Words.{Word, Text}
use Rattle.http_reply.specs.Told.{Named, words_named}
use Rattle.op_exchange.specs.declared.reply.OpReply.{OpReply}
use Rattle.op_exchange.specs.declared.reply.OpReply.TheVariants.{LoginPage, ConsentPage, Tokens, TokenRefused}
use Rattle.op_exchange.specs.Replied.{session_given}
use Rattle.op_response.specs.Cookies.{browser_cookie, session_cookie}

-- ---- words that a reply sets

-- the browser word that a page sets
abbrev pub browser_given : OpReply → Option Word
browser_given (LoginPage turn browser again) = Some browser
browser_given (ConsentPage turn browser session client scopes) = Some browser
browser_given reply = None

-- the words that a reply sets, in order, under names with the prefix `__Host-` or without it
abbrev pub words_set : Bool → OpReply → List Named
words_set host reply = words_named (browser_cookie host) (browser_given reply) ++ words_named (session_cookie host) (session_given reply)

-- ---- responses of the token endpoint (RFC 6749, 5.1 and 5.2)

abbrev pub is_token_response : OpReply → Bool
is_token_response (Tokens access id) = true
is_token_response (TokenRefused code) = true
is_token_response reply = false

-- ---- characters with a meaning in HTML: `"`, `&`, `'`, `<` and `>`

abbrev pub is_mark : ℕ → Bool
is_mark b = b == 34 || b == 38 || b == 39 || b == 60 || b == 62

abbrev pub has_mark : Text → Bool
has_mark t = list_any is_mark t
