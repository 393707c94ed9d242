use Rattle.op_response.proofs.FormLaws.{login_form, login_turn, consent_form, consent_turn, consent_asked, consent_asked_in_words}
use Rattle.oidc_words.proofs.ScopeTexts.{text_is_read}
use Rattle.op_response.proofs.law.forms_are_posted_to_the_provider.Goals as goal

pub returns-clause-login : goal.returns-clause-login
returns-clause-login c = login_form

pub returns-clause-login_turn : goal.returns-clause-login_turn
returns-clause-login_turn c = login_turn

pub returns-clause-consent : goal.returns-clause-consent
returns-clause-consent c = consent_form

pub returns-clause-consent_turn : goal.returns-clause-consent_turn
returns-clause-consent_turn c = consent_turn

pub returns-clause-asked : goal.returns-clause-asked
returns-clause-asked c = consent_asked

pub returns-clause-asked_in_words : goal.returns-clause-asked_in_words
returns-clause-asked_in_words c = consent_asked_in_words

pub returns-clause-scopes : goal.returns-clause-scopes
returns-clause-scopes c = text_is_read
