use Rattle.web_requests.proofs.CarriedMessages.{token_request_read, info_request_read}
use Rattle.web_requests.proofs.CarriedLogouts.{logout_carried}
use Rattle.web_requests.proofs.law.carried_messages_are_read.Goals as goal

pub returns-clause-token : goal.returns-clause-token
returns-clause-token c = λ configuration n client pending code redirect r there u v. token_request_read configuration r n client pending code redirect there u v

pub returns-clause-info : goal.returns-clause-info
returns-clause-info c = λ configuration endpoint pending access r is word. info_request_read configuration r endpoint pending access is word

pub returns-clause-logout : goal.returns-clause-logout
returns-clause-logout c = logout_carried
