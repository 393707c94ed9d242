use Rattle.sso_base.proofs.Literal.{stands-row_of, row_of-stands}
use Rattle.signout_answer.specs.Questions.{question_name}
use Rattle.signout_answer.specs.Answering.{question_made, question_kept}
use Rattle.signout_answer.proofs.Questioning.{question_names}
use Rattle.signout_answer.proofs.law.questions_stand.Goals as goal

pub returns : goal.returns
returns g c = λ setup past w row. (
  stands-row_of question_name (question_made setup) (question_kept setup) (question_names setup) w past row,
  row_of-stands question_name (question_made setup) (question_kept setup) (question_names setup) w past row,
)
