use Rattle.token_endpoint.proofs.Refused as refusals
use Rattle.token_endpoint.proofs.law.refused_requests_have_a_cause.Goals as goal

pub returns-clause-no_body : goal.returns-clause-no_body
returns-clause-no_body c = refusals.no_body

pub returns-clause-refused : goal.returns-clause-refused
returns-clause-refused c = refusals.refused

pub returns-clause-accepted : goal.returns-clause-accepted
returns-clause-accepted c = refusals.accepted

pub returns-clause-cause : goal.returns-clause-cause
returns-clause-cause c = λ configuration auth body e r h. refusals.caused configuration auth body e r.client_ids h
