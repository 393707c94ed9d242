use Rattle.token_kinds.proofs.Issued.{id_no_request, read_id_no_request, sealed_id_no_request}
use Rattle.token_kinds.proofs.Refusals.{id_token_of_the_provider}
use Rattle.token_kinds.proofs.requests.id_tokens_are_no_request_objects.Goals as goal

pub returns-clause-apart : goal.returns-clause-apart
returns-clause-apart c = id_no_request

pub returns-clause-read : goal.returns-clause-read
returns-clause-read c = read_id_no_request

pub returns-clause-sealed : goal.returns-clause-sealed
returns-clause-sealed c = sealed_id_no_request

pub returns-clause-refused : goal.returns-clause-refused
returns-clause-refused c = λ client issuer k x own other s none. id_token_of_the_provider client issuer x other s none k own
