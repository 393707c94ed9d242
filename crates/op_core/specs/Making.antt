-- The rows that a step makes, from the rows that live before it. If the reply is the provider's answer, they are the rows that
-- the definitions of turns, sessions, codes and access tokens make.
use Rattle.std.specs.Prelude.{ℕ, length, Option, Some, None, option_map, option_and_then, Ok}
use Rattle.sso_base.specs.Words.{Word, word_of_text, Text}
use Rattle.sso_base.specs.declared.history.Entry.{Entry}
use Rattle.auth_request.specs.declared.wish.Wish.{Wish}
use Rattle.auth_request.specs.declared.wish.Verdict.TheVariants.{Grant}
use Rattle.code_grant.specs.declared.rows.TurnRow.{TurnRow}
use Rattle.code_grant.specs.declared.rows.SessionRow.{SessionRow}
use Rattle.code_grant.specs.declared.rows.CodeRow.{CodeRow}
use Rattle.code_grant.specs.declared.rows.TokenRow.{TokenRow}
use Rattle.op_exchange.specs.declared.ask.OpAsk.{OpAsk}
use Rattle.op_exchange.specs.declared.ask.OpAsk.TheVariants.{Authorize, Login, Consent, Token}
use Rattle.op_exchange.specs.declared.reply.OpReply.{OpReply}
use Rattle.op_exchange.specs.declared.reply.OpReply.TheVariants.{Answered, Tokens}
use Rattle.op_exchange.specs.Replied.{code_in}
use Rattle.op_answer.specs.Past.{OpPast}
use Rattle.op_answer.specs.Turns.{live_turn}
use Rattle.op_answer.specs.Sessions.{live_session, session_set, is_answered, client_of_wish, and_client}
use Rattle.op_answer.specs.Codes.{code_made_by, held_code}
use Rattle.op_answer.specs.AccessTokens.{access_answered, access_redeemed}
use Rattle.op_answer.specs.Replies.{session_after}

-- the live turn of a login form or a consent form
abbrev pub turn_found : OpPast → ℕ → OpAsk → Option TurnRow
turn_found past at (Login turn signed b session) = live_turn past at turn
turn_found past at (Consent turn agree b session) = live_turn past at turn
turn_found past at ask = None

-- the wish of the request, or of the turn of its form
abbrev pub wish_for : OpAsk → Option TurnRow → Option Wish
wish_for (Authorize (Grant wish) b session) turn = Some wish
wish_for (Login word signed b session) turn = option_map (λ (row : TurnRow). row.wish) turn
wish_for (Consent word agree b session) turn = option_map (λ (row : TurnRow). row.wish) turn
wish_for ask turn = None

abbrev pub wish_found : OpPast → ℕ → OpAsk → Option Wish
wish_found past at ask = wish_for ask (turn_found past at ask)

-- the live session of a turn
abbrev pub session_of_turn : OpPast → ℕ → Option TurnRow → Option SessionRow
session_of_turn past at turn = option_and_then (λ (row : TurnRow). live_session past at row.session) turn

-- the live session that was presented, the one after a correct password, or that of the turn of the form
abbrev pub session_for : OpPast → Entry OpAsk → OpAsk → Option SessionRow → Option SessionRow
session_for past e (Authorize verdict b session) own = live_session past e.at session
session_for past e (Login word (Some user) b presented) own = Some (session_after past e user presented)
session_for past e (Consent word agree b session) own = own
session_for past e ask own = None

abbrev pub session_found : OpPast → Entry OpAsk → OpAsk → Option SessionRow
session_found past e ask = session_for past e ask (session_of_turn past e.at (turn_found past e.at ask))

-- the access token that a token response has for a code
abbrev pub access_for_code : OpPast → ℕ → Word → Text → Option TokenRow
access_for_code past at w code = access_redeemed (length past) at w (held_code past at (word_of_text code))

-- the client that a reply answers
abbrev pub client_found : OpPast → Entry OpAsk → OpReply → Option ℕ
client_found past e reply = client_of_wish (is_answered reply) (wish_found past e.at e.ask)

-- a login whose reply sets a session word makes this session, with the client that the reply answers
abbrev pub session_with : Option ℕ → SessionRow → SessionRow
session_with client row = record row { clients = and_client client row.clients }

abbrev pub session_put_by : OpPast → Entry OpAsk → Option ℕ → OpAsk → Option Word → Option SessionRow
session_put_by past e client (Login turn (Some user) b presented) (Some w) =
    Some (session_with client (session_after past e user presented))
session_put_by past e client ask given = None

abbrev pub session_put : OpPast → Entry OpAsk → OpReply → Option SessionRow
session_put past e reply = session_put_by past e (client_found past e reply) e.ask (session_set e.ask reply)

abbrev pub code_put : OpPast → Entry OpAsk → OpReply → Option CodeRow
code_put past e reply =
    code_made_by (length past) e.at (code_in reply) (wish_found past e.at e.ask) (session_found past e e.ask)

abbrev pub access_put_by : OpPast → Entry OpAsk → OpAsk → OpReply → Option Wish → Option SessionRow → Option TokenRow
access_put_by past e (Token (Ok grant)) (Tokens w id) wish session = access_for_code past e.at w grant.code
access_put_by past e ask (Answered answer given) wish session = access_answered (length past) e.at answer.access wish session
access_put_by past e ask reply wish session = None

abbrev pub access_put : OpPast → Entry OpAsk → OpReply → Option TokenRow
access_put past e reply = access_put_by past e e.ask reply (wish_found past e.at e.ask) (session_found past e e.ask)
