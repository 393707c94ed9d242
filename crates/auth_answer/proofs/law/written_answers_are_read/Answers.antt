use Rattle.auth_answer.proofs.Written.{answer_read_back, answer_any_state}
use Rattle.auth_answer.proofs.law.written_answers_are_read.Goals as goal

pub returns-clause-read : goal.returns-clause-read
returns-clause-read c = answer_read_back

pub returns-clause-any_state : goal.returns-clause-any_state
returns-clause-any_state c = answer_any_state
