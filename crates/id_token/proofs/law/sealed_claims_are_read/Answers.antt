use Rattle.id_token.proofs.Written.{id_read-id_text}
use Rattle.id_token.proofs.law.sealed_claims_are_read.Goals as goal

pub returns : goal.returns
returns c = id_read-id_text
