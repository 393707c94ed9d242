-- The effects of a pair besides its reply: the rows that it makes, the session that it used and the client that it answered.
use Rattle.std.specs.Prelude.{◌≡◌, ℕ, Option, Some, None, option_and_then}
use Rattle.sso_base.specs.Words.{Word}
use Rattle.code_grant.specs.declared.rows.TurnRow.{TurnRow}
use Rattle.code_grant.specs.declared.rows.SessionRow.{SessionRow}
use Rattle.code_grant.specs.declared.rows.CodeRow.{CodeRow}
use Rattle.code_grant.specs.declared.rows.TokenRow.{TokenRow}
use Rattle.sso_base.specs.declared.history.Entry.{Entry}
use Rattle.code_grant.specs.Tables.{Tables}
use Rattle.op_exchange.specs.declared.ask.OpAsk.{OpAsk}
use Rattle.op_exchange.specs.declared.ask.OpAsk.TheVariants.{Authorize, Login, Consent}
use Rattle.op_exchange.specs.declared.reply.OpReply.{OpReply}
use Rattle.op_answer.specs.Past.{OpPair, OpPast}
use Rattle.op_answer.specs.Turns.{turns, turn_made}
use Rattle.op_answer.specs.Sessions.{sessions, session_made, session_set, session_used, client_answered}
use Rattle.op_answer.specs.Codes.{codes_issued, code_made}
use Rattle.op_answer.specs.AccessTokens.{accesses, access_made}
use Rattle.op_tables.specs.Updating.{MayUpdateTables, UpdatesTables}
use Rattle.op_core.specs.declared.outcome.Outcome.{Outcome}
use Rattle.op_core.specs.Making.{turn_found}

-- the session of a reply: presented, from the login, or that of the turn of the form
abbrev pub used_for : OpAsk → OpReply → Option TurnRow → Option Word
used_for (Authorize verdict b session) reply turn = session
used_for (Login word signed b session) reply turn = session_set (Login word signed b session) reply
used_for (Consent word agree b session) reply turn = option_and_then (λ (row : TurnRow). row.session) turn
used_for ask reply turn = None

abbrev pub used_found : OpPast → Entry OpAsk → OpAsk → OpReply → Option Word
used_found past e ask reply = used_for ask reply (turn_found past e.at ask)

-- these are the rows that the definitions of turns, sessions, codes and access tokens make; the session counts only if a client
-- was answered
pub record MakesRows
    (past : OpPast) (p : OpPair) (turn : Option TurnRow) (session : Option SessionRow) (code : Option CodeRow)
    (token : Option TokenRow) (used : Option Word) (client : Option ℕ) : Type 0 where
  pub turn_is : turn ≡ turn_made (turns past) past p
  pub session_is : session ≡ session_made (sessions past) past p
  pub code_is : code ≡ code_made (codes_issued past) past p
  pub token_is : token ≡ access_made (accesses past) past p
  pub client_is : client_answered past p ≡ client
  pub used_is : (n : ℕ) → client ≡ Some n → session_used past p.entry.ask p.reply ≡ used

-- these are the effects of the pair
abbrev pub IsOutcome : OpPast → OpPair → Outcome → Type 0
IsOutcome past p o = MakesRows past p o.made.turn o.made.session o.made.code o.made.token o.used o.client

-- the tables may be updated with the pair and these effects
abbrev pub MayPut : Tables → OpPair → Outcome → Type 0
MayPut t p o = MayUpdateTables t p o.made o.used o.client

-- after an update the tables follow the pair
abbrev pub LeavesPut : Tables → Tables → OpPair → Outcome → Type 0
LeavesPut t after p o = UpdatesTables t after p o.made o.used o.client
