use Rattle.rp_login.proofs.CallLaws.{dead_stays}
use Rattle.rp_login.proofs.law.dead_sids_are_remembered.Goals as goal

pub returns : goal.returns
returns c = dead_stays
