use Rattle.client_keys.proofs.Opened.{sealed_opens, opened_is_sealed, opens_alike}
use Rattle.client_keys.proofs.law.texts_open_for_their_client.Goals as goal

pub returns-clause-opens : goal.returns-clause-opens
returns-clause-opens c = sealed_opens

pub returns-clause-sealed : goal.returns-clause-sealed
returns-clause-sealed c = opened_is_sealed

pub returns-clause-alike : goal.returns-clause-alike
returns-clause-alike c = opens_alike
