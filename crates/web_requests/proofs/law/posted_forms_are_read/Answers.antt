use Rattle.web_requests.proofs.PostedForms.{login_read, consent_read}
use Rattle.web_requests.proofs.law.posted_forms_are_read.Goals as goal

pub returns-clause-login : goal.returns-clause-login
returns-clause-login c = λ configuration turn browser again user password from jar is u p. login_read configuration from jar turn browser again user password is u p

pub returns-clause-consent : goal.returns-clause-consent
returns-clause-consent c = λ configuration turn browser given client scopes agree from jar is. consent_read configuration from jar turn browser given client scopes agree is
