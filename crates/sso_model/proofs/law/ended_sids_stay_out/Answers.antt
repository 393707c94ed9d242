use Rattle.sso_model.proofs.ForgetRuns.{dead_when_ended, dead_stays, not_entered, forgotten}
use Rattle.sso_model.proofs.law.ended_sids_stay_out.Goals as goal

pub returns-clause-ended : goal.returns-clause-ended
returns-clause-ended c = dead_when_ended

pub returns-clause-stays : goal.returns-clause-stays
returns-clause-stays c = dead_stays

pub returns-clause-entered : goal.returns-clause-entered
returns-clause-entered c = not_entered

pub returns-clause-forgotten : goal.returns-clause-forgotten
returns-clause-forgotten c = forgotten
