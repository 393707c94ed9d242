use Rattle.token_kinds.proofs.Issued.{no_good_id, no_good_read_id, sealed_request_no_id}
use Rattle.token_kinds.proofs.Refusals.{request_without_subject}
use Rattle.token_kinds.proofs.requests.request_objects_are_no_id_tokens.Goals as goal

pub returns-clause-apart : goal.returns-clause-apart
returns-clause-apart c = no_good_id

pub returns-clause-read : goal.returns-clause-read
returns-clause-read c = no_good_read_id

pub returns-clause-sealed : goal.returns-clause-sealed
returns-clause-sealed c = sealed_request_no_id

pub returns-clause-refused : goal.returns-clause-refused
returns-clause-refused c = request_without_subject
