use Rattle.op_request.proofs.GrantedWishes.{wish_granted, judged_request, granted_wish, object_refused}
use Rattle.op_request.proofs.law.wishes_are_granted_by_the_judgement.Goals as goal

pub returns-clause-granted : goal.returns-clause-granted
returns-clause-granted c = wish_granted

pub returns-clause-judged : goal.returns-clause-judged
returns-clause-judged c = λ configuration request beside whole r to read is. judged_request configuration request beside whole r.client_ids to read is

pub returns-clause-grants : goal.returns-clause-grants
returns-clause-grants c = λ configuration request wish r to g. granted_wish configuration request wish r.client_ids to g

pub returns-clause-refused : goal.returns-clause-refused
returns-clause-refused c = λ configuration request beside n client object r to read there named stands none.
    object_refused configuration request beside n client object r.client_ids to read there named stands none
