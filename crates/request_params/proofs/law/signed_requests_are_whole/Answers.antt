use Rattle.request_params.proofs.Whole.{signed_whole}
use Rattle.request_params.proofs.law.signed_requests_are_whole.Goals as goal

pub returns : goal.returns
returns c = signed_whole
