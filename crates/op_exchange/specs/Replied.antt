-- The effects of a reply besides its page or location: it ends the turn that it replies to, sets a session word, and has a code
-- and an access token.
use Rattle.std.specs.Prelude.{Bool, true, false, Option, Some, None}
use Rattle.sso_base.specs.Words.{Word}
use Rattle.op_exchange.specs.declared.reply.OpReply.{OpReply}
use Rattle.op_exchange.specs.declared.reply.OpReply.TheVariants.{ConsentPage, Answered, Refused, Tokens}

abbrev pub ends_turn : OpReply → Bool
ends_turn (Answered answer session) = true
ends_turn (Refused refusal session) = true
ends_turn reply = false

-- the session word that a reply sets
abbrev pub session_given : OpReply → Option Word
session_given (ConsentPage w b given client scopes) = given
session_given (Answered answer given) = given
session_given (Refused refusal given) = given
session_given reply = None

-- the code in a reply, if it is an authorization response that has one (RFC 6749, 4.1.2)
abbrev pub code_in : OpReply → Option Word
code_in (Answered answer given) = answer.code
code_in reply = None

-- the access token in a reply, if it is an authorization response (RFC 6749, 4.2.2) or a token response (5.1) that has one
abbrev pub access_in : OpReply → Option Word
access_in (Answered answer given) = answer.access
access_in (Tokens access id) = Some access
access_in reply = None
