use Rattle.rp_request.proofs.PreparedAsks.{always_prepared, always_answered, always_told}
use Rattle.rp_request.proofs.law.prepared_asks_are_given_by_requests.Goals as goal

pub returns-clause-request : goal.returns-clause-request
returns-clause-request c = always_prepared

pub returns-clause-answer : goal.returns-clause-answer
returns-clause-answer c = always_answered

pub returns-clause-info : goal.returns-clause-info
returns-clause-info c = always_told
