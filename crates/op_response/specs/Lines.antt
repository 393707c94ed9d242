-- The lines of the provider's replies in the text of a replay. They show no word, token or claim.
use Rattle.std.specs.Prelude.{ℕ, true, false, length, [], ◌∷◌, ◌++◌, codes, is_some}
use Rattle.std.specs.Fmt.{decimal}
use Rattle.sso_base.specs.Words.{Text}
use Rattle.auth_request.specs.declared.wish.PageNo.{PageNo}
use Rattle.auth_request.specs.declared.wish.PageNo.TheVariants as page
use Rattle.auth_answer.specs.declared.answer.Answer.{Answer}
use Rattle.oidc_words.specs.Errors.{error_text, invalid_token}
use Rattle.token_endpoint.specs.Errors.{error_code}
use Rattle.op_exchange.specs.declared.reply.OpReply.{OpReply}
use Rattle.op_exchange.specs.declared.reply.OpReply.TheVariants as reply
use Rattle.oidc_words.specs.Words.{spaced}
use Rattle.oidc_words.specs.Types.{code_word, id_token_word, token_word}

-- the reason of an error page
abbrev pub page_word : PageNo → Text
page_word page.Client = codes "client"
page_word page.Redirect = codes "redirect"
page_word page.Twice = codes "twice"
page_word page.Turn = codes "turn"
page_word page.Browser = codes "browser"

-- the parts of a successful response
abbrev pub answer_words : Answer → Text
answer_words answer =
    spaced ((true, codes "answer") ∷ (is_some answer.code, code_word) ∷ (is_some answer.id, id_token_word) ∷ (is_some answer.access, token_word) ∷ [])

-- a sign-out, with the number of its messages
abbrev pub signed_out : ℕ → Text
signed_out messages = codes "signout " ++ decimal messages

-- the line of a reply
unfoldable pub line_of : OpReply → Text
line_of (reply.LoginPage turn browser false) = codes "login"
line_of (reply.LoginPage turn browser true) = codes "login again"
line_of (reply.ConsentPage turn browser session client scopes) = codes "consent"
line_of (reply.Answered answer session) = answer_words answer
line_of (reply.Refused refusal session) = codes "error " ++ error_text refusal.code
line_of (reply.ErrorPage why) = codes "page " ++ page_word why
line_of (reply.Tokens access id) = codes "tokens"
line_of (reply.TokenRefused code) = codes "refused " ++ error_code code
line_of (reply.Info claims) = codes "info"
line_of (reply.InfoRefused true) = codes "info " ++ invalid_token
line_of (reply.InfoRefused false) = codes "info no_token"
line_of (reply.SignedOut messages) = signed_out (length messages)
line_of (reply.Metadata text) = codes "metadata"
line_of reply.Keys = codes "keys"
line_of reply.NotHere = codes "nothing"
line_of reply.Full = codes "full"
