use Rattle.std.proofs.Common.{sym, subst}
use Rattle.running_world.specs.Running.{places_of}
use Rattle.running_world.specs.Transcribed.{Transcribed}
use Rattle.running_world.specs.Worlds.{IsWorld}
use Rattle.running_world.proofs.Beginning.{new_world}
use Rattle.running_world.proofs.world.World.new.Goals as goal

pub invariant_of-result : goal.invariant_of-result
invariant_of-result c =
    let T : Transcribed → Type 0 = λ t. IsWorld t.registry c.in-Ok.provider c.in-Ok-new_parties.parties.items (places_of t.registry t.kept) in
    subst T (sym c.in-Ok-new.ensures.new)
    (new_world c.args.registry c.in-Ok.provider c.in-Ok-new_parties.parties.items c.in-Ok-new.ensures.read c.in-Ok.ensures.registry c.in-Ok.ensures.history c.in-Ok-new_parties.ensures)
