use Rattle.sso_base.proofs.Literal.{stands-row_of, row_of-stands}
use Rattle.rp_login.specs.Rows.{login_name, pending_name, visit_name, seen_name, dead_name}
use Rattle.rp_answer.specs.Logins.{login_made, login_kept}
use Rattle.rp_answer.specs.Pendings.{pending_made, pending_kept}
use Rattle.rp_answer.specs.Visits.{visit_made, visit_kept}
use Rattle.rp_answer.specs.Seens.{seen_made, seen_kept}
use Rattle.rp_answer.specs.Deads.{dead_made, dead_kept}
use Rattle.rp_answer.proofs.KeptNames.{login_names, pending_names, visit_names, seen_names, dead_names}
use Rattle.rp_answer.proofs.law.rows_stand.Goals as goal

pub returns-clause-logins : goal.returns-clause-logins
returns-clause-logins c = λ past w row. (stands-row_of login_name login_made login_kept login_names w past row, row_of-stands login_name login_made login_kept login_names w past row)

pub returns-clause-pendings : goal.returns-clause-pendings
returns-clause-pendings c = λ types past w row. (stands-row_of pending_name (pending_made types) pending_kept pending_names w past row, row_of-stands pending_name (pending_made types) pending_kept pending_names w past row)

pub returns-clause-visits : goal.returns-clause-visits
returns-clause-visits c = λ types past w row. (stands-row_of visit_name (visit_made types) visit_kept visit_names w past row, row_of-stands visit_name (visit_made types) visit_kept visit_names w past row)

pub returns-clause-seens : goal.returns-clause-seens
returns-clause-seens c = λ past jti row. (stands-row_of seen_name seen_made seen_kept seen_names jti past row, row_of-stands seen_name seen_made seen_kept seen_names jti past row)

pub returns-clause-deads : goal.returns-clause-deads
returns-clause-deads c = λ past sid row. (stands-row_of dead_name dead_made dead_kept dead_names sid past row, row_of-stands dead_name dead_made dead_kept dead_names sid past row)
