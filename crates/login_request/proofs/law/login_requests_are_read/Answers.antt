use Rattle.login_request.proofs.Asked.{located, plain_read}
use Rattle.login_request.proofs.law.login_requests_are_read.Goals as goal

pub returns-clause-location : goal.returns-clause-location
returns-clause-location c = located

pub returns-clause-read : goal.returns-clause-read
returns-clause-read c = plain_read
