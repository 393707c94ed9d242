use Rattle.op_tables.proofs.KeptTables.{turn_pushed}
use Rattle.op_tables.proofs.keeping.put_turn.Goals as goal

pub start_turn-requires : goal.start_turn-requires
start_turn-requires c =
    let may = rw c.in-Some.is at c.requires in
    record { reserved = may.0.room; few = may.0.few; unnamed = may.0.unnamed; latest = may.0.latest; client = may.1 }

pub returns-in-Some : goal.returns-in-Some
returns-in-Some c =
    let may = rw c.in-Some.is at c.requires in
    rw (c.in-Some.is, c.start_turn.ensures) (turn_pushed c.in-Some.row c.args.grants.now may.0.unnamed)
