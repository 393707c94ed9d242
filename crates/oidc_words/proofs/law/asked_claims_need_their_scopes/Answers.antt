use Rattle.oidc_words.proofs.Asking.{asked_by_its_scope, no_openid, profile_of_any, email_of_any, address_of_any, phone_of_any, covers_each_of}
use Rattle.oidc_words.proofs.law.asked_claims_need_their_scopes.Goals as goal

pub returns-clause-asked : goal.returns-clause-asked
returns-clause-asked c = asked_by_its_scope

pub returns-clause-openid : goal.returns-clause-openid
returns-clause-openid c = no_openid

pub returns-clause-profile : goal.returns-clause-profile
returns-clause-profile c = profile_of_any

pub returns-clause-email : goal.returns-clause-email
returns-clause-email c = email_of_any

pub returns-clause-address : goal.returns-clause-address
returns-clause-address c = address_of_any

pub returns-clause-phone : goal.returns-clause-phone
returns-clause-phone c = phone_of_any

pub returns-clause-each : goal.returns-clause-each
returns-clause-each c = covers_each_of
