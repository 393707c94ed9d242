use Rattle.op_answer.proofs.Granting.{openid_granted, profile_granted, email_granted, address_granted, phone_granted}
use Rattle.op_answer.proofs.law.grants_are_said_yes_to.Goals as goal

pub returns-clause-openid : goal.returns-clause-openid
returns-clause-openid c = openid_granted

pub returns-clause-profile : goal.returns-clause-profile
returns-clause-profile c = profile_granted

pub returns-clause-email : goal.returns-clause-email
returns-clause-email c = email_granted

pub returns-clause-address : goal.returns-clause-address
returns-clause-address c = address_granted

pub returns-clause-phone : goal.returns-clause-phone
returns-clause-phone c = phone_granted
