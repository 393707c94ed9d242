use Rattle.op_request.proofs.LedTo.{login_told}
use Rattle.op_request.proofs.PasswordsShown.{signed_shows, shows_signed}
use Rattle.op_request.proofs.law.logins_are_signed_by_passwords.Goals as goal

pub returns-clause-shows : goal.returns-clause-shows
returns-clause-shows c = signed_shows

pub returns-clause-signed : goal.returns-clause-signed
returns-clause-signed c = λ configuration request n r to once s. shows_signed configuration request n r.user_ids to once s

pub returns-clause-told : goal.returns-clause-told
returns-clause-told c = login_told
