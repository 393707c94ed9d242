-- The reply to a form is the one for its live turn, and the live session of that turn.
use Rattle.std.proofs.Common.{◌≡◌, Bool, Option, Some, None, refl, ◌∙◌, ap}
use Rattle.sso_base.specs.Words.{Word}
use Rattle.sso_base.specs.declared.history.Entry.{Entry}
use Rattle.client_registry.specs.Configuration.{Configuration}
use Rattle.code_grant.specs.declared.rows.TurnRow.{TurnRow}
use Rattle.code_grant.specs.declared.rows.SessionRow.{SessionRow}
use Rattle.op_exchange.specs.declared.ask.OpAsk.{OpAsk}
use Rattle.op_exchange.specs.declared.ask.OpAsk.TheVariants as ask
use Rattle.op_exchange.specs.declared.reply.OpReply.{OpReply}
use Rattle.op_answer.specs.Past.{OpPast}
use Rattle.op_answer.specs.Turns.{live_turn}
use Rattle.op_answer.specs.Replies.{consent}
use Rattle.op_answer.specs.Answering.{op_reply}
use Rattle.op_core.specs.Making.{turn_found, session_of_turn}
use Rattle.op_core.specs.FormReplies.{consent_for, reply_for}

module _ (c : Configuration) (past : OpPast) (e : Entry OpAsk) where
  consent_found : (turn : Option TurnRow) (agree : Bool) (browser presented : Option Word)
      → consent_for c past e turn (session_of_turn past e.at turn) agree browser presented ≡ consent c past e turn agree browser presented
  consent_found None agree browser presented = refl
  consent_found (Some turn) agree browser presented = refl

  reply_found : (asked : OpAsk)
      → reply_for c past e asked (turn_found past e.at asked) (session_of_turn past e.at (turn_found past e.at asked)) ≡ op_reply c past e asked
  reply_found (ask.Login word signed browser session) = refl
  reply_found (ask.Consent word agree browser session) = consent_found (live_turn past e.at word) agree browser session
  reply_found other = refl

  -- a turn and a session that were found
  pub reply_of_found : (asked : OpAsk) (turn : Option TurnRow) (own : Option SessionRow) → turn ≡ turn_found past e.at asked → own ≡ session_of_turn past e.at turn
      → reply_for c past e asked turn own ≡ op_reply c past e asked
  reply_of_found asked turn own is has =
      let S : Option SessionRow → OpReply = λ s. reply_for c past e asked turn s in
      let T : Option TurnRow → OpReply = λ t. reply_for c past e asked t (session_of_turn past e.at t) in
      ap S has ∙ ap T is ∙ reply_found asked
