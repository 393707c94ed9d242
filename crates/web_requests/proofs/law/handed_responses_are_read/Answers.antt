use Rattle.web_requests.proofs.CarriedMessages.{tokens_handed, info_handed}
use Rattle.web_requests.proofs.law.handed_responses_are_read.Goals as goal

pub returns-clause-tokens : goal.returns-clause-tokens
returns-clause-tokens c = λ configuration n from pending access message id u. tokens_handed configuration from n pending access message id u

pub returns-clause-info : goal.returns-clause-info
returns-clause-info c = λ configuration n from client user pending message scopes asked r. info_handed configuration from n client user pending message scopes asked r
