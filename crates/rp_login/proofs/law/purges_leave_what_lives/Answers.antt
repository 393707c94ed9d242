use Rattle.rp_login.specs.Rows.{login_name, login_begun, pending_name, pending_begun, visit_name, visit_begun, seen_name, seen_begun, dead_name, dead_begun}
use Rattle.oidc_words.specs.Lives.{login_life, pending_life, visit_life, seen_life}
use Rattle.held_rows.proofs.RowOf.{row_of-live_rows}
use Rattle.rp_login.proofs.law.purges_leave_what_lives.Goals as goal

pub returns-clause-logins : goal.returns-clause-logins
returns-clause-logins c = λ at state t held. row_of-live_rows login_name login_life login_begun at state t.logins held.distinct

pub returns-clause-pendings : goal.returns-clause-pendings
returns-clause-pendings c = λ at w t held. row_of-live_rows pending_name pending_life pending_begun at w t.pendings held.distinct

pub returns-clause-sessions : goal.returns-clause-sessions
returns-clause-sessions c = λ at w t held. row_of-live_rows visit_name visit_life visit_begun at w t.visits held.distinct

pub returns-clause-seens : goal.returns-clause-seens
returns-clause-seens c = λ at jti t held. row_of-live_rows seen_name seen_life seen_begun at jti t.seens held.distinct

pub returns-clause-deads : goal.returns-clause-deads
returns-clause-deads c = λ at sid t held. row_of-live_rows dead_name seen_life dead_begun at sid t.deads held.distinct
