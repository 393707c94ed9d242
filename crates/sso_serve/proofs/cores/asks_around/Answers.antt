use Rattle.std.proofs.Common.{ap}
use Rattle.sso_base.specs.Journal.{most_of}
use Rattle.client_registry.specs.Configuration.{Configuration}
use Rattle.sso_serve.proofs.cores.asks_around.Goals as goal

pub new-requires-clause-most : goal.new-requires-clause-most
new-requires-clause-most c = ap (λ (v : Configuration). most_of v.lasting) c.requires.registry
