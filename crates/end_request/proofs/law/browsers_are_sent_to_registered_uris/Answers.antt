use Rattle.end_request.proofs.Sending.{registered_return}
use Rattle.end_request.proofs.law.browsers_are_sent_to_registered_uris.Goals as goal

pub returns : goal.returns
returns c = λ configuration lists form wish to read there. registered_return configuration lists form wish to read there
