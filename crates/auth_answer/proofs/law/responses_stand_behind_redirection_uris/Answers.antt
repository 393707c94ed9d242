use Rattle.auth_answer.proofs.Written.{answer_located, refusal_located}
use Rattle.auth_answer.proofs.law.responses_stand_behind_redirection_uris.Goals as goal

pub returns-clause-answer : goal.returns-clause-answer
returns-clause-answer c = answer_located

pub returns-clause-refusal : goal.returns-clause-refusal
returns-clause-refusal c = refusal_located
