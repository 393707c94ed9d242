use Rattle.client_registry.proofs.ClientSets.{has_client-none, length-no_clients, has_client-with_client, has_client-with_other, length-with_client}
use Rattle.client_registry.proofs.law.sets_have_what_was_added.Goals as goal

pub returns-clause-none : goal.returns-clause-none
returns-clause-none c = has_client-none

pub returns-clause-room : goal.returns-clause-room
returns-clause-room c = length-no_clients

pub returns-clause-added : goal.returns-clause-added
returns-clause-added c = has_client-with_client

pub returns-clause-others : goal.returns-clause-others
returns-clause-others c = has_client-with_other

pub returns-clause-stays : goal.returns-clause-stays
returns-clause-stays c = length-with_client
