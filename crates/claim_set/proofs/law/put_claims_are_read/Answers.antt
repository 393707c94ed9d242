use Rattle.claim_set.proofs.PutClaims.{text-put, number-put, flag-put, lone_text-put, texts-put, audience-put, member-put}
use Rattle.claim_set.proofs.law.put_claims_are_read.Goals as goal

pub returns-clause-text : goal.returns-clause-text
returns-clause-text c = text-put

pub returns-clause-number : goal.returns-clause-number
returns-clause-number c = number-put

pub returns-clause-flag : goal.returns-clause-flag
returns-clause-flag c = flag-put

pub returns-clause-lone_text : goal.returns-clause-lone_text
returns-clause-lone_text c = lone_text-put

pub returns-clause-texts : goal.returns-clause-texts
returns-clause-texts c = texts-put

pub returns-clause-audience : goal.returns-clause-audience
returns-clause-audience c = audience-put

pub returns-clause-member : goal.returns-clause-member
returns-clause-member c = member-put
