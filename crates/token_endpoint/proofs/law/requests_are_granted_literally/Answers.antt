use Rattle.token_endpoint.proofs.Requests.{granted, is_granted, granted_texts}
use Rattle.token_endpoint.proofs.law.requests_are_granted_literally.Goals as goal

pub returns-clause-grant : goal.returns-clause-grant
returns-clause-grant c = granted

pub returns-clause-read : goal.returns-clause-read
returns-clause-read c = λ configuration auth body g r i. is_granted configuration auth body g r.client_ids i

pub returns-clause-texts : goal.returns-clause-texts
returns-clause-texts c = granted_texts
