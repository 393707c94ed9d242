-- Legal pasts of the provider, and what is true in them: a code gets tokens at most once, and a session word is only set for a
-- login form with a correct password.
use Rattle.std.specs.Prelude.{◌≡◌, ℕ, List, Option, Some, None}
use Rattle.sso_base.specs.Words.{Word}
use Rattle.sso_base.specs.Legal.{IsLegalBy}
use Rattle.sso_base.specs.Journal.{most_of, IsLegalHistoryBy}
use Rattle.sso_base.specs.declared.history.Entry.{Entry}
use Rattle.client_registry.specs.Configuration.{Configuration}
use Rattle.code_grant.specs.declared.rows.TurnRow.{TurnRow}
use Rattle.code_grant.specs.declared.rows.CodeRow.{CodeRow}
use Rattle.op_exchange.specs.declared.ask.OpAsk.{OpAsk}
use Rattle.op_exchange.specs.declared.ask.OpAsk.TheVariants.{Login}
use Rattle.op_exchange.specs.declared.reply.OpReply.{OpReply}
use Rattle.op_exchange.specs.declared.reply.OpReply.TheVariants.{Tokens}
use Rattle.op_answer.specs.Past.{OpPair, OpPast}
use Rattle.op_exchange.specs.Values.{IsOpAsk}
use Rattle.op_exchange.specs.Weight.{ask_weight}
use Rattle.op_answer.specs.Codes.{code_named, held_code}
use Rattle.op_answer.specs.Replies.{session_after}
use Rattle.op_answer.specs.Answering.{op_answer}
use Rattle.op_answer.specs.Causes.{OwnTurn}

-- each reply is the answer to its entry after its own past, and time never goes back
abbrev pub IsLegalOp : Configuration → OpPast → Type 0
IsLegalOp c past = IsLegalBy IsOpAsk (op_answer c) past

-- a history, oldest first, whose past is legal, and that weighs no more than the limit of the configuration
abbrev pub IsLegalHistory : Configuration → List OpPair → Type 0
IsLegalHistory c history = IsLegalHistoryBy IsOpAsk (op_answer c) ask_weight (most_of c.lasting) history

-- ---- codes

abbrev pub place_redeemed : OpReply → Option CodeRow → Option ℕ
place_redeemed (Tokens access id) (Some code) = Some code.by
place_redeemed reply code = None

-- the code for which a pair got tokens, given by the index of the pair that made it, counted from 0
abbrev pub code_redeemed : OpPast → OpPair → Option ℕ
code_redeemed past p = place_redeemed p.reply (held_code past p.entry.at (code_named p.entry.ask))

-- ---- session words

-- a login form with the correct password of a user, for a live turn and from its browser, gives this session
pub record PassedPassword (past : OpPast) (e : Entry OpAsk) (w : Word) : Type 0 where
  pub turn : Option Word
  pub user : ℕ
  pub browser : Option Word
  pub presented : Option Word
  pub asked : e.ask ≡ Login turn (Some user) browser presented
  pub row : TurnRow
  pub own : OwnTurn past e turn browser row
  pub word_is : w ≡ (session_after past e user presented).word
