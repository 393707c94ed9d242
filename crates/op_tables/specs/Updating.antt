-- The precondition of an update: the tables agree with the past, the reply is the answer after it, and the rows are those it
-- makes.
use Rattle.std.specs.Prelude.{◌≡◌, ◌≤◌, ℕ, Option, Some}
use Rattle.sso_base.specs.Words.{Word}
use Rattle.client_registry.specs.Configuration.{Configuration}
use Rattle.code_grant.specs.declared.rows.TurnRow.{TurnRow}
use Rattle.code_grant.specs.declared.rows.SessionRow.{SessionRow}
use Rattle.code_grant.specs.declared.rows.CodeRow.{CodeRow}
use Rattle.code_grant.specs.declared.rows.TokenRow.{TokenRow}
use Rattle.code_grant.specs.Tables.{Tables}
use Rattle.op_answer.specs.Past.{OpPair, OpPast}
use Rattle.op_answer.specs.Turns.{turns, turn_made}
use Rattle.op_answer.specs.Sessions.{sessions, session_made, session_used, client_answered}
use Rattle.op_answer.specs.Codes.{codes_issued, code_made}
use Rattle.op_answer.specs.AccessTokens.{accesses, access_made}
use Rattle.op_answer.specs.Answering.{op_answer}
use Rattle.op_tables.specs.declared.made.Made.{Made}
use Rattle.op_tables.specs.Agreeing.{Agrees, IsBegun, AreOwn}
use Rattle.op_tables.specs.Keeping.{IsUpdate}

pub record MayUpdate
    (t : Tables) (p : OpPair) (turn : Option TurnRow) (session : Option SessionRow) (code : Option CodeRow)
    (token : Option TokenRow) (used : Option Word) (client : Option ℕ) (c : Configuration) (past : OpPast) (before : ℕ) : Type 0 where
  pub order : before ≤ p.entry.at
  pub agrees : Agrees t past before
  pub begun : IsBegun t before
  pub own : AreOwn c t
  pub reply_is : p.reply ≡ op_answer c past p.entry
  pub used_is : (n : ℕ) → client ≡ Some n → session_used past p.entry.ask p.reply ≡ used
  pub client_is : client_answered past p ≡ client
  pub turn_is : turn ≡ turn_made (turns past) past p
  pub session_is : session ≡ session_made (sessions past) past p
  pub code_is : code ≡ code_made (codes_issued past) past p
  pub token_is : token ≡ access_made (accesses past) past p

-- some past and moment before the pair for which this is the precondition
abbrev pub MayUpdateTables : Tables → OpPair → Made → Option Word → Option ℕ → Type 0
MayUpdateTables t p made used client =
    (c : Configuration) × (past : OpPast) × (before : ℕ)
    × MayUpdate t p made.turn made.session made.code made.token used client c past before

-- after each such past the tables follow the pair
abbrev pub UpdatesTables : Tables → Tables → OpPair → Made → Option Word → Option ℕ → Type 0
UpdatesTables t after p made used client =
    (c : Configuration) (past : OpPast) (before : ℕ)
    → MayUpdate t p made.turn made.session made.code made.token used client c past before → IsUpdate t after past p
