use Rattle.op_response.proofs.ReplyLaws.{answer_sent_to, refusal_sent_to, location_of_responses, status_of_responses}
use Rattle.op_response.proofs.law.responses_send_the_user_agent_on.Goals as goal

pub returns-clause-answer : goal.returns-clause-answer
returns-clause-answer c = answer_sent_to

pub returns-clause-refusal : goal.returns-clause-refusal
returns-clause-refusal c = refusal_sent_to

pub returns-clause-location : goal.returns-clause-location
returns-clause-location c = location_of_responses

pub returns-clause-status : goal.returns-clause-status
returns-clause-status c = status_of_responses
