use Rattle.logout_token.proofs.Written.{logout_read-logout_text}
use Rattle.logout_token.proofs.law.sealed_claims_are_read.Goals as goal

pub returns : goal.returns
returns c = logout_read-logout_text
