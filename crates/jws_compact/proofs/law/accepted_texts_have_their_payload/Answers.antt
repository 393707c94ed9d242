use Rattle.jws_compact.proofs.Opening.{verdict_payload}
use Rattle.jws_compact.proofs.law.accepted_texts_have_their_payload.Goals as goal

pub returns : goal.returns
returns c = verdict_payload
