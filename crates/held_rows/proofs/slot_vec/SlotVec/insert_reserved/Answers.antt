use Rattle.std.proofs.Common.{◌≡◌, ℕ, List, [], ◌∷◌, ◌++◌, Option, Some, None, subst, arith}
use Rattle.std.specs.Vec.{vec_capacity}
use Rattle.held_rows.specs.SlotList.{IsSound}
use Rattle.held_rows.proofs.FreeSlots.{last_free, filled, changes_set, count_set}
use Rattle.held_rows.proofs.slot_vec.SlotVec.insert_reserved.Goals as goal

-- the free slots end with the one that was taken from them
ends : {T : Type 0} (slots : List (Option T)) (old new : List ℕ) (room slot : ℕ) → old ≡ new ++ slot ∷ [] → IsSound slots old room → IsSound slots (new ++ slot ∷ []) room
ends slots old new room slot is sound = subst (λ (frees : List ℕ). IsSound slots frees room) is sound

pub index_mut-requires : goal.index_mut-requires
index_mut-requires g c =
    let in' = c.self.inside in
    let sound = ends in'.slots.items in'.free.items c.pop.new.self.items (vec_capacity in'.free) c.in-Some.slot c.in-Some.ensures.items c.self.invariant in
    let low = (last_free in'.slots.items c.pop.new.self.items (vec_capacity in'.free) c.in-Some.slot sound).in_range in
    let as_long = in'.slots.ok.0 in
    omega (arith, low, as_long)

pub invariant_of-self : goal.invariant_of-self
invariant_of-self g c =
    let in' = c.self.inside in
    let sound = ends in'.slots.items in'.free.items c.pop.new.self.items (vec_capacity in'.free) c.in-Some.slot c.in-Some.ensures.items c.self.invariant in
    rw c.pop.ensures.capacity (filled in'.slots.items c.pop.new.self.items (vec_capacity in'.free) c.in-Some.slot c.args.value sound)

pub returns-in-Some-clause-was_free : goal.returns-in-Some-clause-was_free
returns-in-Some-clause-was_free g c =
    let in' = c.self.inside in
    let sound = ends in'.slots.items in'.free.items c.pop.new.self.items (vec_capacity in'.free) c.in-Some.slot c.in-Some.ensures.items c.self.invariant in
    rw (← c.self.view_is) (last_free in'.slots.items c.pop.new.self.items (vec_capacity in'.free) c.in-Some.slot sound).vacant

pub returns-in-Some-clause-changes : goal.returns-in-Some-clause-changes
returns-in-Some-clause-changes g c =
    let in' = c.self.inside in
    let sound = ends in'.slots.items in'.free.items c.pop.new.self.items (vec_capacity in'.free) c.in-Some.slot c.in-Some.ensures.items c.self.invariant in
    let free = last_free in'.slots.items c.pop.new.self.items (vec_capacity in'.free) c.in-Some.slot sound in
    rw (← c.self.view_is) (changes_set in'.slots.items c.in-Some.slot (Some c.args.value) free.in_range)

pub returns-in-Some-clause-count : goal.returns-in-Some-clause-count
returns-in-Some-clause-count g c =
    let in' = c.self.inside in
    let sound = ends in'.slots.items in'.free.items c.pop.new.self.items (vec_capacity in'.free) c.in-Some.slot c.in-Some.ensures.items c.self.invariant in
    let free = last_free in'.slots.items c.pop.new.self.items (vec_capacity in'.free) c.in-Some.slot sound in
    let counts = count_set in'.slots.items c.in-Some.slot None (Some c.args.value) free.in_range free.vacant in
    rw (← c.self.view_is) (omega (arith, counts))
