use Rattle.rp_request.proofs.Callbacks.{callback_opened, callback_accepted}
use Rattle.rp_request.proofs.law.id_tokens_are_opened_by_a_secret.Goals as goal

pub returns-clause-opened : goal.returns-clause-opened
returns-clause-opened c = callback_opened

pub returns-clause-accepted : goal.returns-clause-accepted
returns-clause-accepted c = callback_accepted
