use Rattle.user_interaction.proofs.Needing.{shows_no_login, shows_no_consent}
use Rattle.user_interaction.proofs.law.silent_requests_show_no_page.Goals as goal

pub returns-clause-login : goal.returns-clause-login
returns-clause-login c = shows_no_login

pub returns-clause-consent : goal.returns-clause-consent
returns-clause-consent c = shows_no_consent
