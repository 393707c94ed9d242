use Rattle.op_issue.proofs.GoodLogouts.{is_good, issuer_is, client_is, ends}
use Rattle.op_issue.proofs.logout_law.logout_tokens_are_good.Goals as goal

pub returns-clause-good : goal.returns-clause-good
returns-clause-good c = is_good

pub returns-clause-issuer : goal.returns-clause-issuer
returns-clause-issuer c = issuer_is

pub returns-clause-client : goal.returns-clause-client
returns-clause-client c = client_is

pub returns-clause-life : goal.returns-clause-life
returns-clause-life c = ends
