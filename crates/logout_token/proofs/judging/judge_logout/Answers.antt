use Rattle.std.proofs.Common.{sym, ◌∙◌}
use Rattle.logout_token.proofs.Good.{good_passes, passes_good}
use Rattle.logout_token.proofs.judging.judge_logout.Goals as goal

pub returns-clause-accepts : goal.returns-clause-accepts
returns-clause-accepts c = λ good. c.judged.ensures ∙ good_passes c.args.issuer.now c.args.client.now c.args.claims.now c.args.at good

pub returns-clause-good : goal.returns-clause-good
returns-clause-good c = λ passed. passes_good c.args.issuer.now c.args.client.now c.args.claims.now c.args.at (sym c.judged.ensures ∙ passed)
