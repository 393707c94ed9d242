use Rattle.authorization.proofs.OwnServers.{claims_reach}
use Rattle.authorization.proofs.law.claims_reach_the_client.Goals as goal

pub returns : goal.returns
returns c = claims_reach
