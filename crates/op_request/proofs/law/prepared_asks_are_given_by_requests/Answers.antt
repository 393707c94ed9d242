use Rattle.op_request.proofs.PreparedAsks.{always_prepared}
use Rattle.op_request.proofs.law.prepared_asks_are_given_by_requests.Goals as goal

pub returns : goal.returns
returns c = always_prepared
