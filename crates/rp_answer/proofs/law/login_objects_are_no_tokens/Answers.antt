use Rattle.rp_answer.proofs.ObjectsApart.{object_no_id, object_no_logout}
use Rattle.rp_answer.proofs.law.login_objects_are_no_tokens.Goals as goal

pub returns-clause-id : goal.returns-clause-id
returns-clause-id c = object_no_id

pub returns-clause-logout : goal.returns-clause-logout
returns-clause-logout c = object_no_logout
