use Rattle.std.proofs.Common.{subst}
use Rattle.running_world.specs.Running.{Running, world_of}
use Rattle.running_world.specs.Theorem.{TheoremHolds}
use Rattle.running_world.specs.Worlds.{shown}
use Rattle.running_world.proofs.Signing.{theorem_holds}
use Rattle.running_world.proofs.world.World.theorem.Goals as goal

pub returns : goal.returns
returns c =
    let inside : Running = shown c.self.inside.transcript in
    subst (λ (r : Running). TheoremHolds r.registry (world_of r)) c.self.view_is
    (theorem_holds inside.registry c.self.inside.provider c.self.inside.parties.items (world_of inside) c.self.invariant)
