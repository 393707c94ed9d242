use Rattle.op_request.proofs.PasswordsShown.{login_turn, consent_turn, agreed_exactly}
use Rattle.op_request.proofs.law.forms_have_their_turn.Goals as goal

pub returns-clause-login : goal.returns-clause-login
returns-clause-login c = login_turn

pub returns-clause-consent : goal.returns-clause-consent
returns-clause-consent c = consent_turn

pub returns-clause-agreed : goal.returns-clause-agreed
returns-clause-agreed c = agreed_exactly
