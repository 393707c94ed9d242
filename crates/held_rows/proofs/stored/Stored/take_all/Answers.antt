use Rattle.std.proofs.Common.{◌≤◌, length, refl, arith}
use Rattle.held_rows.specs.Index.{stored_rows}
use Rattle.held_rows.proofs.Parts.{as_many}
use Rattle.held_rows.proofs.Swept.{rows_swept, stored_swept}
use Rattle.held_rows.proofs.stored.Stored.take_all.Goals as goal

pub empty_slots-count-requires-clause-few : goal.empty_slots-count-requires-clause-few
empty_slots-count-requires-clause-few g c =
    let long = as_many g.R.Row.name g.R.Row.key g.R.Row.begun g.R.Row.IsSound c.args.self.now c.requires in
    let few : length (stored_rows c.args.self.now) ≤ 65536 = c.requires.held.few in
    let low : length c.args.self.now.by_issue.items ≤ 65536 = omega (arith, long, few) in
    low

pub returns-clause-stored : goal.returns-clause-stored
returns-clause-stored g c =
    let e = c.empty_slots-count.ensures in
    let had = c.requires.memory in
    stored_swept g.R.Row.name g.R.Row.key g.R.Row.begun g.R.Row.IsSound c.args.self.now c.requires (g.T.Test.passes c.args.test.now)
    (record { slots = c.empty_slots-count.new.slots; by_issue = c.keep_held.new.index; by_name = c.keep_held-2.new.index; by_group = c.keep_held-3.new.index; by_other = c.keep_held-4.new.index; next = c.args.self.now.next; room = c.args.self.now.room })
    e.left c.keep_held.ensures.items c.empty_slots-count.result e.count e.values refl
    c.keep_held-2.ensures.items c.keep_held-3.ensures.items c.keep_held-4.ensures.items
    refl (record { slots = rw e.capacity had.slots; issue = rw c.keep_held.ensures.capacity had.issue; names = rw c.keep_held-2.ensures.capacity had.names; groups = rw c.keep_held-3.ensures.capacity had.groups; other_groups = rw c.keep_held-4.ensures.capacity had.other_groups })

pub returns-clause-rows : goal.returns-clause-rows
returns-clause-rows g c =
    rows_swept g.R.Row.name g.R.Row.key g.R.Row.begun g.R.Row.IsSound c.args.self.now c.requires (g.T.Test.passes c.args.test.now)
    (record { slots = c.empty_slots-count.new.slots; by_issue = c.keep_held.new.index; by_name = c.keep_held-2.new.index; by_group = c.keep_held-3.new.index; by_other = c.keep_held-4.new.index; next = c.args.self.now.next; room = c.args.self.now.room })
    c.empty_slots-count.ensures.left c.keep_held.ensures.items
