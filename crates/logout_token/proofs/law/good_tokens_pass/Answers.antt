use Rattle.logout_token.proofs.Good.{good_passes, passes_good}
use Rattle.logout_token.proofs.law.good_tokens_pass.Goals as goal

pub returns-clause-passes : goal.returns-clause-passes
returns-clause-passes c = good_passes

pub returns-clause-good : goal.returns-clause-good
returns-clause-good c = passes_good
