use Rattle.std.proofs.Common.{true}
use Rattle.held_rows.specs.Held.{MayAddRow}
use Rattle.held_rows.proofs.Kept.{put_pushes}
use Rattle.op_tables.proofs.TakenRows.{if_has}
use Rattle.core_stack.specs.Rows.{code_mark_name, code_mark_begun}
use Rattle.core_stack.proofs.holding.put_code.Goals as goal

pub add-requires : goal.add-requires
add-requires g c =
    let may = if_has (MayAddRow code_mark_name code_mark_begun true c.args.codes.now.rows) c.args.row c.in-Some.row c.requires.may c.in-Some.is in
    record { reserved = c.requires.room; few = may.few; unnamed = may.unnamed; latest = may.latest; sound = tt }

pub returns-in-Some : goal.returns-in-Some
returns-in-Some g c =
    let may = if_has (MayAddRow code_mark_name code_mark_begun true c.args.codes.now.rows) c.args.row c.in-Some.row c.requires.may c.in-Some.is in
    rw (c.in-Some.is, c.add.ensures) (put_pushes code_mark_name c.in-Some.row c.args.codes.now.rows may.unnamed)
