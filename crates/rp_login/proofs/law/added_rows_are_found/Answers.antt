use Rattle.rp_login.specs.Rows.{login_name, pending_name, visit_name, seen_name, dead_name}
use Rattle.held_rows.proofs.RowOf.{row_of-push_same, row_of-push_other}
use Rattle.rp_login.proofs.law.added_rows_are_found.Goals as goal

pub returns-clause-login : goal.returns-clause-login
returns-clause-login c = λ row t none. row_of-push_same login_name row t.logins none

pub returns-clause-pending : goal.returns-clause-pending
returns-clause-pending c = λ row t none. row_of-push_same pending_name row t.pendings none

pub returns-clause-session : goal.returns-clause-session
returns-clause-session c = λ row t none. row_of-push_same visit_name row t.visits none

pub returns-clause-seen : goal.returns-clause-seen
returns-clause-seen c = λ row t none. row_of-push_same seen_name row t.seens none

pub returns-clause-dead : goal.returns-clause-dead
returns-clause-dead c = λ row t none. row_of-push_same dead_name row t.deads none

pub returns-clause-other_logins : goal.returns-clause-other_logins
returns-clause-other_logins c = λ state row t other. row_of-push_other login_name state row t.logins other

pub returns-clause-other_pendings : goal.returns-clause-other_pendings
returns-clause-other_pendings c = λ w row t other. row_of-push_other pending_name w row t.pendings other

pub returns-clause-other_sessions : goal.returns-clause-other_sessions
returns-clause-other_sessions c = λ w row t other. row_of-push_other visit_name w row t.visits other

pub returns-clause-other_seens : goal.returns-clause-other_seens
returns-clause-other_seens c = λ jti row t other. row_of-push_other seen_name jti row t.seens other

pub returns-clause-other_deads : goal.returns-clause-other_deads
returns-clause-other_deads c = λ sid row t other. row_of-push_other dead_name sid row t.deads other
