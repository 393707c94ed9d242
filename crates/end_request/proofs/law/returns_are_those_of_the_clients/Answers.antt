use Rattle.end_request.proofs.OfClients.{are_of_clients}
use Rattle.end_request.proofs.law.returns_are_those_of_the_clients.Goals as goal

pub returns : goal.returns
returns c = λ bytes configuration lists read there. are_of_clients bytes configuration lists read there
