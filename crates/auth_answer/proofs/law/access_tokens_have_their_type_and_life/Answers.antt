use Rattle.auth_answer.proofs.TokenParams.{token_type_beside, expires_in_beside}
use Rattle.auth_answer.proofs.law.access_tokens_have_their_type_and_life.Goals as goal

pub returns-clause-token_type : goal.returns-clause-token_type
returns-clause-token_type c = token_type_beside

pub returns-clause-expires_in : goal.returns-clause-expires_in
returns-clause-expires_in c = expires_in_beside
