use Rattle.std.proofs.Common.{IsSome, None, get_or, sym, ◌∙◌}
use Rattle.std.specs.Vec.{vec_capacity}
use Rattle.held_rows.proofs.FreeSlots.{read_value, vacated}
use Rattle.held_rows.proofs.slot_vec.SlotVec.remove.Goals as goal

pub invariant_of-self : goal.invariant_of-self
invariant_of-self g c =
    let some : IsSome (get_or c.self.inside.slots.items c.args.slot None) = rw (← c.self.view_is) at c.requires in
    let was = read_value c.self.inside.slots.items c.args.slot c.index_mut.result.now c.in-Some.value some c.index_mut.ensures.value (sym c.take.ensures.value ∙ c.in-Some.is) in
    rw (c.take.ensures.after, c.push_reserved.ensures.items, c.push_reserved.ensures.capacity)
    (vacated c.self.inside.slots.items c.self.inside.free.items (vec_capacity c.self.inside.free) c.args.slot c.in-Some.value was c.self.invariant)
