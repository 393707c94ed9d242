use Rattle.rp_answer.proofs.Hashes.{codes_have_their_hash, access_tokens_have_their_hash}
use Rattle.rp_answer.proofs.law.codes_and_access_tokens_have_their_hash.Goals as goal

pub returns-clause-codes : goal.returns-clause-codes
returns-clause-codes c = codes_have_their_hash

pub returns-clause-access : goal.returns-clause-access
returns-clause-access c = access_tokens_have_their_hash
