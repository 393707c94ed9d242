use Rattle.auth_request.proofs.Wishes.{wish_of_request, wish_keeps}
use Rattle.auth_request.proofs.law.granted_wishes_are_the_requests.Goals as goal

pub returns-clause-of_request : goal.returns-clause-of_request
returns-clause-of_request c = wish_of_request

pub returns-clause-keeps : goal.returns-clause-keeps
returns-clause-keeps c = wish_keeps
