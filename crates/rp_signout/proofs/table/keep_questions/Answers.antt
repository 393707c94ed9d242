use Rattle.sso_base.specs.Rows.{live_rows}
use Rattle.core_stack.proofs.MarksHeld.{may_through}
use Rattle.oidc_words.specs.Lives.{question_life}
use Rattle.signout_answer.specs.Questions.{question_name, question_begun}
use Rattle.rp_signout.specs.Keeps.{rows_left}
use Rattle.rp_signout.proofs.table.keep_questions.Goals as goal

pub put_question-requires-clause-may : goal.put_question-requires-clause-may
put_question-requires-clause-may c =
    may_through question_name question_begun c.args.row (rows_left c.args.ended (live_rows question_life question_begun c.args.at c.args.questions.now.rows)) c.leave.new.questions.rows c.leave.ensures.rows c.requires.may
