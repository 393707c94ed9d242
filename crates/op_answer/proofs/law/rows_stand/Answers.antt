use Rattle.sso_base.proofs.Literal.{stands-row_of, row_of-stands}
use Rattle.code_grant.specs.Rows.{turn_name, session_name, code_name, access_name}
use Rattle.op_answer.specs.Turns.{turn_made, turn_kept}
use Rattle.op_answer.specs.Sessions.{session_made, session_kept}
use Rattle.op_answer.specs.Codes.{code_made, code_kept}
use Rattle.op_answer.specs.AccessTokens.{access_made, access_kept}
use Rattle.op_answer.proofs.KeptNames.{turn_names, session_names, code_names, access_names}
use Rattle.op_answer.proofs.law.rows_stand.Goals as goal

pub returns-clause-turns : goal.returns-clause-turns
returns-clause-turns c = λ past w row. (stands-row_of turn_name turn_made turn_kept turn_names w past row, row_of-stands turn_name turn_made turn_kept turn_names w past row)

pub returns-clause-sessions : goal.returns-clause-sessions
returns-clause-sessions c = λ past w row. (stands-row_of session_name session_made session_kept session_names w past row, row_of-stands session_name session_made session_kept session_names w past row)

pub returns-clause-codes : goal.returns-clause-codes
returns-clause-codes c = λ past w row. (stands-row_of code_name code_made code_kept code_names w past row, row_of-stands code_name code_made code_kept code_names w past row)

pub returns-clause-accesses : goal.returns-clause-accesses
returns-clause-accesses c = λ past w row. (stands-row_of access_name access_made access_kept access_names w past row, row_of-stands access_name access_made access_kept access_names w past row)
