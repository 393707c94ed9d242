use Rattle.std.proofs.Common.{Option, IfSome, ap, sym, subst, refl, arith}
use Rattle.held_rows.specs.declared.stored.Stored.{Stored}
use Rattle.held_rows.specs.Index.{issued_row, stored_rows, IsRemoved}
use Rattle.held_rows.proofs.StoredRemove.{row_removed, stored_removed}
use Rattle.held_rows.proofs.stored.Stored.remove.Goals as goal

pub returns-clause-stored : goal.returns-clause-stored
returns-clause-stored g c =
    let e = c.remove-2.ensures in
    let within = c.place_of-place.ensures.in_range in
    let as_long = c.args.self.now.by_issue.ok.0 in
    let left = rw (c.remove.ensures.succeeds 0 (omega (arith, within, as_long))) at c.remove.ensures.items in
    let had = c.requires.stored.memory in
    stored_removed g.R.Row.name g.R.Row.key g.R.Row.begun g.R.Row.IsSound c.args.self.now c.requires.stored c.args.slot c.remove-2.result e.value
    (record { slots = c.remove-2.new.self; by_issue = c.remove.new.self; by_name = c.take_from.new.index; by_group = c.take_from-2.new.index; by_other = c.take_from-3.new.index; next = c.args.self.now.next; room = c.args.self.now.room })
    e.changes c.place_of-place.result c.place_of-place.ensures.in_range c.place_of-place.ensures.slot left
    refl e.count c.take_from.ensures.index c.take_from-2.ensures.index c.take_from-3.ensures.index
    refl (record { slots = rw e.capacity had.slots; issue = rw c.remove.ensures.capacity had.issue; names = rw c.take_from.ensures.capacity had.names; groups = rw c.take_from-2.ensures.capacity had.groups; other_groups = rw c.take_from-3.ensures.capacity had.other_groups })

pub returns-clause-row : goal.returns-clause-row
returns-clause-row g c =
    let e = c.remove-2.ensures in
    let within = c.place_of-place.ensures.in_range in
    let as_long = c.args.self.now.by_issue.ok.0 in
    let left = rw (c.remove.ensures.succeeds 0 (omega (arith, within, as_long))) at c.remove.ensures.items in
    let new : Stored g.row.R.Denot = record { slots = c.remove-2.new.self; by_issue = c.remove.new.self; by_name = c.take_from.new.index; by_group = c.take_from-2.new.index; by_other = c.take_from-3.new.index; next = c.args.self.now.next; room = c.args.self.now.room } in
    let S : Option g.row.R.Denot → Type 0 = λ o. IfSome o (IsRemoved (stored_rows c.args.self.now) (stored_rows new)) in
    subst S (sym (ap issued_row e.value))
    (row_removed g.R.Row.name g.R.Row.key g.R.Row.begun g.R.Row.IsSound c.args.self.now c.requires.stored c.args.slot c.remove-2.result e.value new
    e.changes c.place_of-place.result c.place_of-place.ensures.in_range c.place_of-place.ensures.slot left)
