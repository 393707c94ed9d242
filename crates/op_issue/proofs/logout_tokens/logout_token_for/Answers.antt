use Rattle.op_issue.proofs.LogoutSealable.{as_issued}
use Rattle.op_issue.proofs.logout_tokens.logout_token_for.Goals as goal

pub seal_logout-requires-clause-short : goal.seal_logout-requires-clause-short
seal_logout-requires-clause-short c = (as_issued _ _ _ c.bounds_of.ensures _ c.in_ok-claims.ensures).short

pub seal_logout-requires-clause-names : goal.seal_logout-requires-clause-names
seal_logout-requires-clause-names c = (as_issued _ _ _ c.bounds_of.ensures _ c.in_ok-claims.ensures).names

pub seal_logout-requires-clause-iat : goal.seal_logout-requires-clause-iat
seal_logout-requires-clause-iat c = (as_issued _ _ _ c.bounds_of.ensures _ c.in_ok-claims.ensures).iat

pub seal_logout-requires-clause-exp : goal.seal_logout-requires-clause-exp
seal_logout-requires-clause-exp c = (as_issued _ _ _ c.bounds_of.ensures _ c.in_ok-claims.ensures).exp
