use Rattle.sso_model.proofs.OnceRuns.{runs_once}
use Rattle.sso_model.proofs.law.once_each.Goals as goal

pub returns : goal.returns
returns c = runs_once
