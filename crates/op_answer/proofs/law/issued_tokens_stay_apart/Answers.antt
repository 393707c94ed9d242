use Rattle.op_answer.proofs.TokensApart.{logout_is_no_id, id_is_no_logout, logout_is_no_request, id_is_no_request}
use Rattle.op_answer.proofs.law.issued_tokens_stay_apart.Goals as goal

pub returns-clause-logout : goal.returns-clause-logout
returns-clause-logout c = logout_is_no_id

pub returns-clause-id : goal.returns-clause-id
returns-clause-id c = id_is_no_logout

pub returns-clause-logout_request : goal.returns-clause-logout_request
returns-clause-logout_request c = logout_is_no_request

pub returns-clause-id_request : goal.returns-clause-id_request
returns-clause-id_request c = id_is_no_request
