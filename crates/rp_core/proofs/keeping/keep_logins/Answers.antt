use Rattle.std.proofs.Common.{sym, ◌∙◌}
use Rattle.rp_core.proofs.KeptTables.{logins_unended, logins_unnamed, logins_ended}
use Rattle.rp_core.proofs.keeping.keep_logins.Goals as goal

pub returns-then-not-ends_login : goal.returns-then-not-ends_login
returns-then-not-ends_login c = λ past. logins_unended past c.args.pair.now c.args.tables.now (sym c.if-not-ends_login.ensures)

pub returns-in-Some : goal.returns-in-Some
returns-in-Some c = λ past.
    c.end_login.ensures ∙ logins_ended past c.args.pair.now c.args.tables.now c.in-Some.state (sym c.state_named.ensures ∙ c.in-Some.is) (sym c.if-not-ends_login.ensures)

pub returns-in_default : goal.returns-in_default
returns-in_default c = λ past. logins_unnamed past c.args.pair.now c.args.tables.now (sym c.state_named.ensures ∙ c.in_default.is)
