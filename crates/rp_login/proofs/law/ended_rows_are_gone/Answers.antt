use Rattle.sso_base.proofs.RowLaws.{row_of-without_same, row_of-without_other}
use Rattle.rp_login.specs.Rows.{login_name, pending_name, visit_name, dead_name}
use Rattle.rp_login.proofs.law.ended_rows_are_gone.Goals as goal

pub returns-clause-login : goal.returns-clause-login
returns-clause-login c = λ state t. row_of-without_same login_name state t.logins

pub returns-clause-pending : goal.returns-clause-pending
returns-clause-pending c = λ w t. row_of-without_same pending_name w t.pendings

pub returns-clause-session : goal.returns-clause-session
returns-clause-session c = λ w t. row_of-without_same visit_name w t.visits

pub returns-clause-dead : goal.returns-clause-dead
returns-clause-dead c = λ sid t. row_of-without_same dead_name sid t.deads

pub returns-clause-other_logins : goal.returns-clause-other_logins
returns-clause-other_logins c = λ v w t other. row_of-without_other login_name v w t.logins other

pub returns-clause-other_pendings : goal.returns-clause-other_pendings
returns-clause-other_pendings c = λ v w t other. row_of-without_other pending_name v w t.pendings other

pub returns-clause-other_sessions : goal.returns-clause-other_sessions
returns-clause-other_sessions c = λ v w t other. row_of-without_other visit_name v w t.visits other

pub returns-clause-other_deads : goal.returns-clause-other_deads
returns-clause-other_deads c = λ ended sid t other. row_of-without_other dead_name ended sid t.deads other
