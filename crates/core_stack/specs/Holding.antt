-- The tables of marked turns and codes, after a past: the rows that live are those of the past, and none begins later.
use Rattle.std.specs.Prelude.{◌≡◌, ℕ, true, List, Option}
use Rattle.sso_base.specs.Rows.{live_rows}
use Rattle.sso_base.specs.declared.history.Pair.{Pair}
use Rattle.oidc_words.specs.Lives.{turn_life, code_life}
use Rattle.held_rows.specs.Held.{none_after}
use Rattle.op_exchange.specs.declared.ask.OpAsk.{OpAsk}
use Rattle.op_exchange.specs.declared.reply.OpReply.{OpReply}
use Rattle.core_stack.specs.declared.marks.TurnMark.{TurnMark}
use Rattle.core_stack.specs.declared.marks.CodeMark.{CodeMark}
use Rattle.core_stack.specs.Rows.{turn_mark_begun, code_mark_begun}
use Rattle.core_stack.specs.Marks.{marked_turns, marked_codes}

module _ {A R M : Type 0} (plain : A → Option OpAsk) (given : R → Option OpReply) (mark : A → M) (none : M) where
  pub record HoldMarks (past : List (Pair A R)) (last : ℕ) (turns : List (TurnMark M)) (codes : List (CodeMark M)) : Type 0 where
    pub turns_live : live_rows turn_life turn_mark_begun last turns
        ≡ live_rows turn_life turn_mark_begun last (marked_turns plain given mark past)
    pub turns_begun : none_after turn_mark_begun last turns ≡ true
    pub codes_live : live_rows code_life code_mark_begun last codes
        ≡ live_rows code_life code_mark_begun last (marked_codes plain given mark none past)
    pub codes_begun : none_after code_mark_begun last codes ≡ true
