use Rattle.op_tables.proofs.KeptTables.{sessions_are_kept}
use Rattle.op_tables.proofs.keeping.keep_sessions.Goals as goal

pub returns : goal.returns
returns c = λ past used_is client_is.
    rw (c.visit_if.ensures, c.end_if.ensures, c.session_ended.ensures) (sessions_are_kept past c.args.pair.now c.args.used c.args.client c.args.grants.now used_is client_is)
