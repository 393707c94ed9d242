use Rattle.sso_model.proofs.FoundedRuns.{runs_founded}
use Rattle.sso_model.proofs.law.begun_answered_signed.Goals as goal

pub returns : goal.returns
returns c = runs_founded
