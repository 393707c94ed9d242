use Rattle.std.proofs.Common.{◌++◌, sym, ap, ◌∙◌, append-nil}
use Rattle.client_registry.specs.Rules.{use_twice}
use Rattle.configuration_rows.proofs.Lists.{past_end}
use Rattle.client_registry.proofs.rules.use_twice.Goals as goal

pub returns-in-None : goal.returns-in-None
returns-in-None c =
    sym (ap (λ o. c.args.refusals.now ++ use_twice c.args.parties.now c.args.place c.args.number o) (past_end c.args.clients.now c.args.number c.in-None.ensures.lookup.3)
    ∙ append-nil c.args.refusals.now)
