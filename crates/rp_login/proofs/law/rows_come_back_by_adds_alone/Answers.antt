use Rattle.rp_login.proofs.CallLaws.{logins_stay_gone, pendings_stay_gone, sessions_stay_gone}
use Rattle.rp_login.proofs.law.rows_come_back_by_adds_alone.Goals as goal

pub returns-clause-login : goal.returns-clause-login
returns-clause-login c = logins_stay_gone

pub returns-clause-pending : goal.returns-clause-pending
returns-clause-pending c = pendings_stay_gone

pub returns-clause-session : goal.returns-clause-session
returns-clause-session c = sessions_stay_gone
