use Rattle.token_kinds.proofs.Issued.{no_good_logout, no_good_read_logout, sealed_request_no_logout}
use Rattle.token_kinds.proofs.Refusals.{request_without_moment}
use Rattle.token_kinds.proofs.requests.request_objects_are_no_logout_tokens.Goals as goal

pub returns-clause-apart : goal.returns-clause-apart
returns-clause-apart c = no_good_logout

pub returns-clause-read : goal.returns-clause-read
returns-clause-read c = no_good_read_logout

pub returns-clause-sealed : goal.returns-clause-sealed
returns-clause-sealed c = sealed_request_no_logout

pub returns-clause-refused : goal.returns-clause-refused
returns-clause-refused c = request_without_moment
