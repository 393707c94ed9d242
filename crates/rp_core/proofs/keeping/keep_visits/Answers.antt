use Rattle.std.proofs.Common.{sym, ◌∙◌}
use Rattle.rp_core.proofs.KeptTables.{visits_left}
use Rattle.rp_core.proofs.keeping.keep_visits.Goals as goal

pub returns-in-Some : goal.returns-in-Some
returns-in-Some c = λ past. c.end_session.ensures.rows ∙ visits_left past c.args.pair.now c.args.tables.now c.in-Some.word (sym c.session_left.ensures ∙ c.in-Some.is)
