use Rattle.token_endpoint.proofs.Responses as responses
use Rattle.token_endpoint.proofs.law.refused_answers_have_the_first_reason.Goals as goal

pub returns-clause-status : goal.returns-clause-status
returns-clause-status c = responses.other_status

pub returns-clause-unread : goal.returns-clause-unread
returns-clause-unread c = responses.unread

pub returns-clause-refused : goal.returns-clause-refused
returns-clause-refused c = responses.refused

pub returns-clause-accepted : goal.returns-clause-accepted
returns-clause-accepted c = responses.accepted
