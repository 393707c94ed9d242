use Rattle.auth_answer.proofs.HeardParts.{read-answer, answer-read, heard_values}
use Rattle.auth_answer.proofs.law.forms_have_their_answers.Goals as goal

pub returns-clause-stands : goal.returns-clause-stands
returns-clause-stands c = read-answer

pub returns-clause-read : goal.returns-clause-read
returns-clause-read c = answer-read

pub returns-clause-values : goal.returns-clause-values
returns-clause-values c = heard_values
