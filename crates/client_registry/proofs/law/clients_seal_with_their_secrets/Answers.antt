use Rattle.client_registry.proofs.SecretFacts.{sealing_is_secret, seals_with_its_own}
use Rattle.client_registry.proofs.law.clients_seal_with_their_secrets.Goals as goal

pub returns-clause-own : goal.returns-clause-own
returns-clause-own c = seals_with_its_own

pub returns-clause-long : goal.returns-clause-long
returns-clause-long c = sealing_is_secret
