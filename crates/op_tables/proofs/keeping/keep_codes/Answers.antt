use Rattle.std.proofs.Common.{sym}
use Rattle.op_tables.proofs.KeptTables.{codes_are_kept, codes_are_left}
use Rattle.op_tables.proofs.keeping.keep_codes.Goals as goal

pub returns-in-Some : goal.returns-in-Some
returns-in-Some c = λ past finds tells.
    rw c.ask_code.ensures
    (codes_are_kept past c.args.pair.now c.args.grants.now c.in-Some.grant.now (sym (rw c.in-Some.is at c.grant_answered.ensures)) finds tells)

pub returns-in_default : goal.returns-in_default
returns-in_default c = λ past finds tells.
    codes_are_left past c.args.pair.now c.args.grants.now (sym (rw c.in_default.is at c.grant_answered.ensures)) tells
