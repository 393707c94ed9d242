use Rattle.std.proofs.Common.{true}
use Rattle.held_rows.specs.Held.{MayAddRow}
use Rattle.held_rows.proofs.Kept.{put_pushes}
use Rattle.op_tables.proofs.TakenRows.{if_has}
use Rattle.signout_answer.specs.Questions.{question_name, question_begun}
use Rattle.rp_signout.proofs.table.put_question.Goals as goal

pub add-requires : goal.add-requires
add-requires c =
    let may = if_has (MayAddRow question_name question_begun true c.args.questions.now.rows) c.args.row c.in-Some.row c.requires.may c.in-Some.is in
    record { reserved = c.requires.room; few = may.few; unnamed = may.unnamed; latest = may.latest; sound = tt }

pub returns-in-Some : goal.returns-in-Some
returns-in-Some c =
    let may = if_has (MayAddRow question_name question_begun true c.args.questions.now.rows) c.args.row c.in-Some.row c.requires.may c.in-Some.is in
    rw (c.in-Some.is, c.add.ensures) (put_pushes question_name c.in-Some.row c.args.questions.now.rows may.unnamed)
