use Rattle.std.proofs.Common.{◌∙◌}
use Rattle.id_token.proofs.Good.{good_passes, passed_good}
use Rattle.id_token.proofs.judging.judge_id.Goals as goal

pub returns-clause-good : goal.returns-clause-good
returns-clause-good c = passed_good c.args.rules.now c.args.claims.now c.args.at c.first_refused.result c.first_refused.ensures.answers

pub returns-clause-accepts : goal.returns-clause-accepts
returns-clause-accepts c = λ good. c.first_refused.ensures.answers ∙ good_passes c.args.rules.now c.args.claims.now c.args.at good
