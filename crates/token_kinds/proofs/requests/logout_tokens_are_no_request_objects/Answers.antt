use Rattle.token_kinds.proofs.Issued.{logout_no_request, read_logout_no_request, sealed_logout_no_request}
use Rattle.token_kinds.proofs.Refusals.{logout_of_the_provider}
use Rattle.token_kinds.proofs.requests.logout_tokens_are_no_request_objects.Goals as goal

pub returns-clause-apart : goal.returns-clause-apart
returns-clause-apart c = logout_no_request

pub returns-clause-read : goal.returns-clause-read
returns-clause-read c = read_logout_no_request

pub returns-clause-sealed : goal.returns-clause-sealed
returns-clause-sealed c = sealed_logout_no_request

pub returns-clause-refused : goal.returns-clause-refused
returns-clause-refused c = λ client issuer k y own other s. logout_of_the_provider client issuer y other k own s
