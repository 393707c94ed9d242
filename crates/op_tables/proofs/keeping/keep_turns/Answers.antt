use Rattle.op_tables.proofs.KeptTables.{turns_are_kept}
use Rattle.op_tables.proofs.keeping.keep_turns.Goals as goal

pub returns : goal.returns
returns c = λ past.
    rw (c.move_turn.ensures, c.turn_named-turn.ensures, c.session_taken-taken.ensures, c.ends_turn.ensures) (turns_are_kept past c.args.pair.now c.args.grants.now)
