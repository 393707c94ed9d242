use Rattle.running_world.proofs.Steps.{skip_keeps}
use Rattle.running_world.proofs.world.World.skip.Goals as goal

pub invariant_of-self : goal.invariant_of-self
invariant_of-self c =
    skip_keeps c.skip.result c.self.inside.provider c.self.inside.parties.items c.self.inside.transcript c.skip.new.self c.self.invariant c.skip.ensures.registry c.skip.ensures.ok c.skip.ensures.err
