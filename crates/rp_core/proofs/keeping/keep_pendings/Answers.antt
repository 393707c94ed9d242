use Rattle.std.proofs.Common.{sym, ◌∙◌}
use Rattle.rp_core.proofs.KeptTables.{pendings_unended, pendings_unnamed, pendings_answered}
use Rattle.rp_core.proofs.keeping.keep_pendings.Goals as goal

pub returns-then-not-ends_pending : goal.returns-then-not-ends_pending
returns-then-not-ends_pending c = λ past. pendings_unended past c.args.pair.now c.args.tables.now (sym c.if-not-ends_pending.ensures)

pub returns-in-Some : goal.returns-in-Some
returns-in-Some c = λ past.
    c.end_answered.ensures
    ∙ pendings_answered past c.args.pair.now c.args.tables.now _ (sym c.answer_named.ensures ∙ c.in-Some.is) (sym c.if-not-ends_pending.ensures)

pub returns-in_default : goal.returns-in_default
returns-in_default c = λ past. pendings_unnamed past c.args.pair.now c.args.tables.now (sym c.answer_named.ensures ∙ c.in_default.is)
