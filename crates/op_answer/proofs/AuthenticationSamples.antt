-- The logins that tokens tell, by computation: alice logged in at 900, and her code was issued at 1000.
use Rattle.std.proofs.Common.{◌≡◌, false, refl}
use Rattle.code_grant.specs.declared.rows.SessionRow.{SessionRow}
use Rattle.code_grant.specs.declared.rows.CodeRow.{CodeRow}
use Rattle.client_registry.specs.ClientSets.{no_clients}
use Rattle.op_issue.specs.declared.issuing.Authentication.{Authentication}
use Rattle.op_exchange.proofs.Sample.{word, wish}
use Rattle.op_answer.specs.Authentications.{session_authentication, code_authentication}

abbrev signed : Authentication
signed = record { user = 0; sid = word 10; auth_time = 900 }

abbrev session : SessionRow
session = record { word = word 11; sid = word 10; user = 0; auth_time = 900; clients = no_clients }

login-of_a_session : session_authentication session ≡ signed
login-of_a_session = refl

-- the moment of the login, and not that of the issue
abbrev code : CodeRow
code = record { word = word 3; wish = wish; user = 0; sid = word 10; auth_time = 900; issued = 1000; spent = false; by = 0 }

login-of_a_code : code_authentication code ≡ signed
login-of_a_code = refl
