-- The login in tokens: that of a session, and the one that a code was issued for.
use Rattle.code_grant.specs.declared.rows.SessionRow.{SessionRow}
use Rattle.code_grant.specs.declared.rows.CodeRow.{CodeRow}
use Rattle.op_issue.specs.declared.issuing.Authentication.{Authentication}

abbrev pub session_authentication : SessionRow → Authentication
session_authentication session = record { user = session.user; sid = session.sid; auth_time = session.auth_time }

-- the moment of the login, not of the issue
abbrev pub code_authentication : CodeRow → Authentication
code_authentication code = record { user = code.user; sid = code.sid; auth_time = code.auth_time }
