use Rattle.jws_compact.proofs.Opening.{verdict_sealed, sealed_verdict, same_header, same_payload}
use Rattle.jws_compact.proofs.law.sealed_texts_open.Goals as goal

pub returns-clause-opens : goal.returns-clause-opens
returns-clause-opens c = sealed_verdict

pub returns-clause-sealed : goal.returns-clause-sealed
returns-clause-sealed c = verdict_sealed

pub returns-clause-header_is_determined : goal.returns-clause-header_is_determined
returns-clause-header_is_determined c = same_header

pub returns-clause-payload_is_determined : goal.returns-clause-payload_is_determined
returns-clause-payload_is_determined c = same_payload
