use Rattle.claim_set.proofs.Written.{claims_read-claims_text, IsUtf8-claims_text, are_bytes-claims_text}
use Rattle.claim_set.proofs.law.written_claims_are_read.Goals as goal

pub returns-clause-utf8 : goal.returns-clause-utf8
returns-clause-utf8 c = IsUtf8-claims_text

pub returns-clause-bytes : goal.returns-clause-bytes
returns-clause-bytes c = are_bytes-claims_text

pub returns-clause-read : goal.returns-clause-read
returns-clause-read c = claims_read-claims_text
