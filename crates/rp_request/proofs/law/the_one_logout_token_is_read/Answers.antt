use Rattle.rp_request.proofs.LogoutTokens.{one_token, no_token, several_tokens, empty_refused}
use Rattle.rp_request.proofs.law.the_one_logout_token_is_read.Goals as goal

pub returns-clause-one : goal.returns-clause-one
returns-clause-one c = one_token

pub returns-clause-none : goal.returns-clause-none
returns-clause-none c = no_token

pub returns-clause-several : goal.returns-clause-several
returns-clause-several c = several_tokens

pub returns-clause-empty : goal.returns-clause-empty
returns-clause-empty c = empty_refused
