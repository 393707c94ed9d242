use Rattle.auth_answer.proofs.HeardParts.{answer_refused, refused_answer}
use Rattle.auth_answer.proofs.law.refused_answers_repeat_a_name.Goals as goal

pub returns-clause-cause : goal.returns-clause-cause
returns-clause-cause c = answer_refused

pub returns-clause-refused : goal.returns-clause-refused
returns-clause-refused c = refused_answer
