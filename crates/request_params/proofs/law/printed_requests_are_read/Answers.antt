use Rattle.request_params.proofs.Printed.{location_is, printed_read}
use Rattle.request_params.proofs.law.printed_requests_are_read.Goals as goal

pub returns-clause-location : goal.returns-clause-location
returns-clause-location c = location_is

pub returns-clause-read : goal.returns-clause-read
returns-clause-read c = printed_read
