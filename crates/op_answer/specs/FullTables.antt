-- What the reply `Full` says: the reply that there would be, were there always room, makes a row that has no place in its
-- table. Each such row has a word that was drawn for the entry.
use Rattle.std.specs.Prelude.{◌≡◌, ℕ, true, Option, Some, None, ◌⊎◌}
use Rattle.sso_base.specs.Words.{Word, fresh_word}
use Rattle.sso_base.specs.declared.history.Entry.{Entry}
use Rattle.client_registry.specs.Configuration.{Configuration}
use Rattle.code_grant.specs.Rows.{turn_name, session_name, code_name, access_name}
use Rattle.held_rows.specs.Held.{NoPlace}
use Rattle.op_exchange.specs.declared.ask.OpAsk.{OpAsk}
use Rattle.op_exchange.specs.declared.ask.OpAsk.TheVariants.{Login}
use Rattle.op_exchange.specs.declared.reply.OpReply.{OpReply}
use Rattle.op_exchange.specs.Asks.{is_prepared}
use Rattle.op_exchange.specs.Replied.{session_given, code_in, access_in}
use Rattle.op_answer.specs.Past.{OpPast}
use Rattle.op_answer.specs.Turns.{BeginsTurn, live_turns}
use Rattle.op_answer.specs.Sessions.{live_sessions}
use Rattle.op_answer.specs.Codes.{held_codes}
use Rattle.op_answer.specs.AccessTokens.{live_accesses}
use Rattle.op_answer.specs.Replies.{session_renewed}
use Rattle.op_answer.specs.Room.{sessions_beside}
use Rattle.op_answer.specs.Answering.{op_reply}

-- a page of this turn comes at once
pub record NoTurnPlace (past : OpPast) (e : Entry OpAsk) (told : OpReply) : Type 0 where
  pub begins : BeginsTurn e.ask told (fresh_word e.fresh 1)
  pub full : NoPlace turn_name (fresh_word e.fresh 1) (live_turns past e.at)

-- a right password leaves a new session, and the presented one ends
pub record NoSessionPlace (past : OpPast) (e : Entry OpAsk) (told : OpReply) : Type 0 where
  pub turn : Option Word
  pub user : ℕ
  pub browser : Option Word
  pub presented : Option Word
  pub asked : e.ask ≡ Login turn (Some user) browser presented
  pub unheld : session_renewed past e.at user presented ≡ None
  pub left : session_given told ≡ Some (fresh_word e.fresh 0)
  pub full : NoPlace session_name (fresh_word e.fresh 0) (sessions_beside presented (fresh_word e.fresh 0) (live_sessions past e.at))

pub record NoCodePlace (past : OpPast) (e : Entry OpAsk) (told : OpReply) : Type 0 where
  pub given : code_in told ≡ Some (fresh_word e.fresh 2)
  pub full : NoPlace code_name (fresh_word e.fresh 2) (held_codes past e.at)

-- an access token comes in a response, or for a code
pub record NoAccessPlace (past : OpPast) (e : Entry OpAsk) (told : OpReply) : Type 0 where
  pub word : Word
  pub drawn : (fresh_word e.fresh 3 ≡ word) ⊎ (fresh_word e.fresh 0 ≡ word)
  pub given : access_in told ≡ Some word
  pub full : NoPlace access_name word (live_accesses past e.at)

abbrev pub LacksPlace : OpPast → Entry OpAsk → OpReply → Type 0
LacksPlace past e told = NoTurnPlace past e told ⊎ NoSessionPlace past e told ⊎ NoCodePlace past e told ⊎ NoAccessPlace past e told

pub record FullCause (c : Configuration) (past : OpPast) (e : Entry OpAsk) : Type 0 where
  pub prepared : is_prepared c e.ask ≡ true
  pub no_place : LacksPlace past e (op_reply c past e e.ask)
