use Rattle.std.proofs.Common.{ap, ◌∙◌}
use Rattle.sso_serve.specs.Cores.{Refreshed, refreshed_registry}
use Rattle.sso_serve.proofs.cores.op_around.Goals as goal

pub returns-in-Ok-clause-registry : goal.returns-in-Ok-clause-registry
returns-in-Ok-clause-registry c = ap (λ (p : Refreshed). refreshed_registry p) c.asks_around.ensures.inner ∙ c.in-Ok.ensures.registry

pub returns-in-Ok-clause-own : goal.returns-in-Ok-clause-own
returns-in-Ok-clause-own c = ap (λ (p : Refreshed). p.registry) c.asks_around.ensures.inner ∙ c.in-Ok.ensures.own
