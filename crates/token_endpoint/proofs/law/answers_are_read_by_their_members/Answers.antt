use Rattle.token_endpoint.proofs.Responses.{read_has, has_read}
use Rattle.token_endpoint.proofs.law.answers_are_read_by_their_members.Goals as goal

pub returns-clause-has : goal.returns-clause-has
returns-clause-has c = read_has

pub returns-clause-read : goal.returns-clause-read
returns-clause-read c = has_read
