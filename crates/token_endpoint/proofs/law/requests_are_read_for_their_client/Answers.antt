use Rattle.token_endpoint.proofs.OfClients.{for_its_client}
use Rattle.token_endpoint.proofs.law.requests_are_read_for_their_client.Goals as goal

pub returns : goal.returns
returns c = for_its_client
