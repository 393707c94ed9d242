use Rattle.request_object.proofs.Written.{request_read-request_text}
use Rattle.request_object.proofs.law.sealed_requests_are_read.Goals as goal

pub returns : goal.returns
returns c = request_read-request_text
