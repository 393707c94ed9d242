use Rattle.op_issue.proofs.Sealable.{as_issued}
use Rattle.op_issue.proofs.id_tokens.id_token_for.Goals as goal

pub seal_id-requires-clause-short : goal.seal_id-requires-clause-short
seal_id-requires-clause-short c = (as_issued _ _ _ _ _ _ c.bounds_of.ensures _ c.in_ok-claims.ensures).short

pub seal_id-requires-clause-subject : goal.seal_id-requires-clause-subject
seal_id-requires-clause-subject c = (as_issued _ _ _ _ _ _ c.bounds_of.ensures _ c.in_ok-claims.ensures).subject

pub seal_id-requires-clause-exp : goal.seal_id-requires-clause-exp
seal_id-requires-clause-exp c = (as_issued _ _ _ _ _ _ c.bounds_of.ensures _ c.in_ok-claims.ensures).exp

pub seal_id-requires-clause-iat : goal.seal_id-requires-clause-iat
seal_id-requires-clause-iat c = (as_issued _ _ _ _ _ _ c.bounds_of.ensures _ c.in_ok-claims.ensures).iat

pub seal_id-requires-clause-auth_time : goal.seal_id-requires-clause-auth_time
seal_id-requires-clause-auth_time c = (as_issued _ _ _ _ _ _ c.bounds_of.ensures _ c.in_ok-claims.ensures).auth_time

pub seal_id-requires-clause-others : goal.seal_id-requires-clause-others
seal_id-requires-clause-others c = (as_issued _ _ _ _ _ _ c.bounds_of.ensures _ c.in_ok-claims.ensures).others
