use Rattle.server_roles.proofs.op.serve_op.Goals as goal

pub returns-clause-summary : goal.returns-clause-summary
returns-clause-summary g c = rw c.listen.ensures at c.serve.ensures.summary
