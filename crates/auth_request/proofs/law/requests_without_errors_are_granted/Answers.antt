use Rattle.auth_request.proofs.Judgements.{granted_without_errors}
use Rattle.auth_request.proofs.law.requests_without_errors_are_granted.Goals as goal

pub returns : goal.returns
returns c = granted_without_errors
