use Rattle.std.proofs.Common.{◌<◌, length, refl, arith}
use Rattle.held_rows.specs.Index.{stored_rows}
use Rattle.held_rows.specs.SlotList.{value_count}
use Rattle.held_rows.proofs.Parts.{as_many, names_short, groups_short, other_groups_short}
use Rattle.held_rows.proofs.StoredAdd.{rows_added, stored_added}
use Rattle.held_rows.proofs.stored.Stored.add.Goals as goal

pub insert_reserved-slot-requires-clause-reserved : goal.insert_reserved-slot-requires-clause-reserved
insert_reserved-slot-requires-clause-reserved g c =
    let long = as_many g.R.Row.name g.R.Row.key g.R.Row.begun g.R.Row.IsSound c.args.self.now c.requires.stored in
    let counted = c.requires.stored.counted in
    let room = c.requires.reserved in
    omega (arith, long, counted, room)

pub insert_reserved-slot-requires-clause-few : goal.insert_reserved-slot-requires-clause-few
insert_reserved-slot-requires-clause-few g c =
    let long = as_many g.R.Row.name g.R.Row.key g.R.Row.begun g.R.Row.IsSound c.args.self.now c.requires.stored in
    let counted = c.requires.stored.counted in
    let few : length (stored_rows c.args.self.now) < 65536 = c.requires.few in
    let low : value_count c.args.self.now.slots < 65536 = omega (arith, long, counted, few) in
    low

pub push_back_reserved-requires : goal.push_back_reserved-requires
push_back_reserved-requires g c =
    let long = as_many g.R.Row.name g.R.Row.key g.R.Row.begun g.R.Row.IsSound c.args.self.now c.requires.stored in
    let as_long = c.args.self.now.by_issue.ok.0 in
    let room = c.requires.reserved in
    omega (arith, long, as_long, room)

pub put_in-requires-clause-reserved : goal.put_in-requires-clause-reserved
put_in-requires-clause-reserved g c =
    let long = as_many g.R.Row.name g.R.Row.key g.R.Row.begun g.R.Row.IsSound c.args.self.now c.requires.stored in
    let short = names_short g.R.Row.name g.R.Row.key g.R.Row.begun g.R.Row.IsSound c.args.self.now c.requires.stored in
    let room = c.requires.reserved in
    omega (arith, long, short, room)

pub put_in-requires-2-clause-reserved : goal.put_in-requires-2-clause-reserved
put_in-requires-2-clause-reserved g c =
    let long = as_many g.R.Row.name g.R.Row.key g.R.Row.begun g.R.Row.IsSound c.args.self.now c.requires.stored in
    let short = groups_short g.R.Row.name g.R.Row.key g.R.Row.begun g.R.Row.IsSound c.args.self.now c.requires.stored in
    let room = c.requires.reserved in
    omega (arith, long, short, room)

pub put_in-requires-3-clause-reserved : goal.put_in-requires-3-clause-reserved
put_in-requires-3-clause-reserved g c =
    let long = as_many g.R.Row.name g.R.Row.key g.R.Row.begun g.R.Row.IsSound c.args.self.now c.requires.stored in
    let short = other_groups_short g.R.Row.name g.R.Row.key g.R.Row.begun g.R.Row.IsSound c.args.self.now c.requires.stored in
    let room = c.requires.reserved in
    omega (arith, long, short, room)

pub returns-clause-stored : goal.returns-clause-stored
returns-clause-stored g c =
    let e = c.insert_reserved-slot.ensures in
    let next = c.saturating_add-self.ensures in
    let had = c.requires.stored.memory in
    let slots = had.slots in
    let slots-2 = e.capacity in
    let issue = had.issue in
    let issue-2 = c.push_back_reserved.ensures.capacity in
    let names = had.names in
    let names-2 = c.put_in.ensures.capacity in
    let groups = had.groups in
    let groups-2 = c.put_in-2.ensures.capacity in
    let other_groups = had.other_groups in
    let other_groups-2 = c.put_in-3.ensures.capacity in
    stored_added g.R.Row.name g.R.Row.key g.R.Row.begun g.R.Row.IsSound c.args.self.now c.requires.stored
    (record { slots = c.insert_reserved-slot.new.self; by_issue = c.push_back_reserved.new.self; by_name = c.put_in.new.index; by_group = c.put_in-2.new.index; by_other = c.put_in-3.new.index; next = c.saturating_add-self.result; room = c.args.self.now.room })
    c.insert_reserved-slot.result (record { serial = c.args.self.now.next; row = c.args.row })
    e.was_free e.changes c.push_back_reserved.ensures.items refl (omega (arith, next)) e.count
    c.put_in.ensures.index c.put_in-2.ensures.index c.put_in-3.ensures.index c.requires.few c.requires.unnamed c.requires.latest c.requires.sound c.requires.reserved
    refl (record { slots = omega (arith, slots, slots-2); issue = omega (arith, issue, issue-2); names = omega (arith, names, names-2); groups = omega (arith, groups, groups-2); other_groups = omega (arith, other_groups, other_groups-2) })

pub returns-clause-rows : goal.returns-clause-rows
returns-clause-rows g c =
    let e = c.insert_reserved-slot.ensures in
    rows_added g.R.Row.name g.R.Row.key g.R.Row.begun g.R.Row.IsSound c.args.self.now c.requires.stored
    (record { slots = c.insert_reserved-slot.new.self; by_issue = c.push_back_reserved.new.self; by_name = c.put_in.new.index; by_group = c.put_in-2.new.index; by_other = c.put_in-3.new.index; next = c.saturating_add-self.result; room = c.args.self.now.room })
    c.insert_reserved-slot.result (record { serial = c.args.self.now.next; row = c.args.row })
    e.was_free e.changes c.push_back_reserved.ensures.items
