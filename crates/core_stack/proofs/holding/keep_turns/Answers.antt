use Rattle.sso_base.specs.Rows.{live_rows}
use Rattle.oidc_words.specs.Lives.{turn_life}
use Rattle.core_stack.specs.Rows.{turn_mark_name, turn_mark_begun}
use Rattle.core_stack.specs.Marks.{turns_left}
use Rattle.core_stack.proofs.MarksHeld.{may_through}
use Rattle.core_stack.proofs.holding.keep_turns.Goals as goal

pub put_turn-requires-clause-may : goal.put_turn-requires-clause-may
put_turn-requires-clause-may g c =
    may_through turn_mark_name turn_mark_begun c.args.row (turns_left c.args.ended (live_rows turn_life turn_mark_begun c.args.at c.args.turns.now.rows)) c.leave_turns.new.turns.rows c.leave_turns.ensures.rows c.requires.may
