use Rattle.server_roles.proofs.rp.serve_rp.Goals as goal

pub returns-clause-summary : goal.returns-clause-summary
returns-clause-summary g c = rw c.listen_of.ensures at c.serve.ensures.summary
