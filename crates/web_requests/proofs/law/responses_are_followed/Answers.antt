use Rattle.web_requests.proofs.FollowedResponses.{answer_followed_read, refusal_followed_read}
use Rattle.web_requests.proofs.law.responses_are_followed.Goals as goal

pub returns-clause-answer : goal.returns-clause-answer
returns-clause-answer c = λ configuration n answer given from jar r low is some state id. answer_followed_read configuration n r low from given jar answer is some state id

pub returns-clause-refusal : goal.returns-clause-refusal
returns-clause-refusal c = λ configuration n refusal given from jar r low is state. refusal_followed_read configuration n r low from given jar refusal is state
