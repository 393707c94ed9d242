use Rattle.op_issue.proofs.GoodTokens.{is_good, issuer_is, client_is, nonce_is, ends}
use Rattle.op_issue.proofs.law.issued_tokens_are_good.Goals as goal

pub returns-clause-good : goal.returns-clause-good
returns-clause-good c = is_good

pub returns-clause-issuer : goal.returns-clause-issuer
returns-clause-issuer c = issuer_is

pub returns-clause-client : goal.returns-clause-client
returns-clause-client c = client_is

pub returns-clause-nonce : goal.returns-clause-nonce
returns-clause-nonce c = nonce_is

pub returns-clause-life : goal.returns-clause-life
returns-clause-life c = ends
