use Rattle.claim_set.proofs.Building.{get-put_all, without_all-put_all}
use Rattle.claim_set.proofs.law.names_are_put_and_taken_out.Goals as goal

pub returns-clause-found : goal.returns-clause-found
returns-clause-found c = get-put_all

pub returns-clause-taken_out : goal.returns-clause-taken_out
returns-clause-taken_out c = without_all-put_all
