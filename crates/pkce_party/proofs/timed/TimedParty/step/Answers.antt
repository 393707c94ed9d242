use Rattle.std.proofs.Common.{subst}
use Rattle.rp_core.specs.Relying.{Relying}
use Rattle.pkce_party.specs.Keeping.{Steps}
use Rattle.pkce_party.proofs.Timing.{steps, last_is}
use Rattle.pkce_party.proofs.timed.TimedParty.step.Goals as goal

pub returns-clause-ok : goal.returns-clause-ok
returns-clause-ok c =
    let S : Relying → Type 0 = λ r. Steps r c.step.new.self c.args.at c.args.fresh c.args.ask c.in_ok-reply.reply in
    subst S c.self.view_is
    (steps c.self.inside.core c.step.new.self c.args.at c.args.fresh c.args.ask c.in_ok-reply.reply c.in_ok-reply.ensures.ok
    c.step.ensures.setup c.step.ensures.legal)

pub invariant_of-self-2 : goal.invariant_of-self-2
invariant_of-self-2 c =
    last_is c.self.inside.core c.step.new.self c.args.at c.args.fresh c.args.ask c.in_ok-reply.reply c.in_ok-reply.ensures.ok c.self.inside.last
    c.later_of-at.result c.self.invariant c.later_of-at.ensures.moment
