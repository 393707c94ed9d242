use Rattle.auth_request.proofs.Judgements.{same_state, fragment_of_type}
use Rattle.auth_request.proofs.law.refusals_answer_as_the_type_does.Goals as goal

pub returns-clause-state : goal.returns-clause-state
returns-clause-state c = same_state

pub returns-clause-fragment : goal.returns-clause-fragment
returns-clause-fragment c = fragment_of_type
