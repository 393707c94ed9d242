use Rattle.std.proofs.Common.{ap, subst}
use Rattle.sso_base.specs.Asked.{FillsHistory}
use Rattle.sso_base.specs.Journal.{most_of}
use Rattle.client_registry.specs.Configuration.{Configuration}
use Rattle.op_exchange.specs.Weight.{ask_weight}
use Rattle.op_core.specs.Providing.{Providing}
use Rattle.op_core.proofs.in_turn.provider_in_turn.Goals as goal

pub returns-in-Ok-clause-full : goal.returns-in-Ok-clause-full
returns-in-Ok-clause-full c = λ w is.
    subst (λ (r : Configuration). FillsHistory ask_weight (most_of r.lasting) c.args.asks.items w) (ap (λ (p : Providing). p.registry) c.in-Ok.ensures) (c.replies_in_turn.ensures.full w is)
