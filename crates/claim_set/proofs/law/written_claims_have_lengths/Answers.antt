use Rattle.claim_set.proofs.Sizes.{length-claims_text-put, length-quoted}
use Rattle.claim_set.proofs.law.written_claims_have_lengths.Goals as goal

pub returns-clause-put : goal.returns-clause-put
returns-clause-put c = length-claims_text-put

pub returns-clause-text : goal.returns-clause-text
returns-clause-text c = length-quoted
