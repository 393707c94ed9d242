use Rattle.std.proofs.Common.{sym}
use Rattle.op_tables.proofs.ConsentsKept.{consent_is_granted, nothing_is_granted}
use Rattle.op_tables.proofs.keeping.grant_agreed.Goals as goal

pub returns-in-Some-clause-granted : goal.returns-in-Some-clause-granted
returns-in-Some-clause-granted c = λ past finds user client low few.
    let within = rw c.in-Some.is at c.agreement_of-agreed.ensures.in_range in
    rw c.grant.ensures
    (consent_is_granted c.args.grants.now past c.args.pair.now.entry.ask c.args.pair.now.reply c.in-Some.agreed
    (sym (rw (c.in-Some.is, c.agreed_turn.ensures) at c.agreement_of-agreed.ensures.agreement)) within.1 c.granted-before.ensures.whole finds user client low few)

pub returns-in_default-clause-granted : goal.returns-in_default-clause-granted
returns-in_default-clause-granted c = λ past finds user client low few.
    nothing_is_granted c.args.grants.now past c.args.pair.now.entry.ask c.args.pair.now.reply (sym (rw (c.in_default.is, c.agreed_turn.ensures) at c.agreement_of-agreed.ensures.agreement)) finds user client low few
