use Rattle.claim_set.proofs.Fitting.{ClaimsFit-none, ClaimsFit-put, ClaimsFit-put_all, ClaimsFit-without}
use Rattle.claim_set.proofs.law.fitting_claims_stay_fit.Goals as goal

pub returns-clause-none : goal.returns-clause-none
returns-clause-none c = ClaimsFit-none

pub returns-clause-put : goal.returns-clause-put
returns-clause-put c = ClaimsFit-put

pub returns-clause-put_all : goal.returns-clause-put_all
returns-clause-put_all c = ClaimsFit-put_all

pub returns-clause-taken_out : goal.returns-clause-taken_out
returns-clause-taken_out c = ClaimsFit-without
