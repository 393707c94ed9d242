use Rattle.core_stack.proofs.Passing.{own_adds_none}
use Rattle.signout_answer.specs.Around.{passed, own_pair}
use Rattle.signout_answer.proofs.Inside.{own_is_not_passed}
use Rattle.signout_answer.proofs.Refusals.{questions_stay}
use Rattle.signout_answer.proofs.law.refused_requests_change_nothing.Goals as goal

pub returns-clause-questions : goal.returns-clause-questions
returns-clause-questions g c = λ setup past own is. questions_stay setup past own is

pub returns-clause-inside : goal.returns-clause-inside
returns-clause-inside g c = λ h own. own_adds_none passed h (own_pair own) (own_is_not_passed own)
