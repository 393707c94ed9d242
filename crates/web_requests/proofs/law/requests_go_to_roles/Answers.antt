use Rattle.web_requests.proofs.Arrivals.{followed_arrives, followed_where, carried_arrives, handed_back_goes_back}
use Rattle.web_requests.proofs.law.requests_go_to_roles.Goals as goal

pub returns-clause-followed : goal.returns-clause-followed
returns-clause-followed c = λ configuration from l jar s h. followed_arrives configuration from jar l s h

pub returns-clause-exactly : goal.returns-clause-exactly
returns-clause-exactly c = λ configuration from l jar. followed_where configuration from jar l

pub returns-clause-carried : goal.returns-clause-carried
returns-clause-carried c = carried_arrives

pub returns-clause-handed : goal.returns-clause-handed
returns-clause-handed c = handed_back_goes_back
