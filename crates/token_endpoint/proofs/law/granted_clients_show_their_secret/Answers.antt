use Rattle.token_endpoint.proofs.Requests.{secret_shown}
use Rattle.token_endpoint.proofs.law.granted_clients_show_their_secret.Goals as goal

pub returns : goal.returns
returns c = secret_shown
