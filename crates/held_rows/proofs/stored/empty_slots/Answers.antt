use Rattle.std.proofs.Common.{◌≤◌, length, arith}
use Rattle.held_rows.proofs.Swept.{none_emptied, next_emptied, few_emptied, whole_emptied, all_emptied, rows_counted}
use Rattle.held_rows.proofs.stored.empty_slots.Goals as goal

pub loop-place-init : goal.loop-place-init
loop-place-init g c = none_emptied (g.T.Test.passes c.args.test.now) c.args.slots.now

pub overflow_add-count : goal.overflow_add-count
overflow_add-count g c =
    let low = c.loop-place-test.true in
    let few : length c.args.by_issue.now.items ≤ 65536 = c.requires.few in
    let after = next_emptied (g.T.Test.passes c.args.test.now) c.args.slots.now c.loop-place.slots c.empty_slot-emptied.new.slots c.args.by_issue.now.items c.loop-place.place c.loop-place.count c.index-slot.result.now c.empty_slot-emptied.result
    c.requires.issued (omega (arith, low)) c.index-slot.ensures c.loop-place.invariant c.empty_slot-emptied.ensures in
    let most = few_emptied (g.T.Test.passes c.args.test.now) c.args.slots.now c.empty_slot-emptied.new.slots c.args.by_issue.now.items _ _ after in
    omega (arith, few, most)

pub loop-place-preserved : goal.loop-place-preserved
loop-place-preserved g c =
    let low = c.loop-place-test.true in
    next_emptied (g.T.Test.passes c.args.test.now) c.args.slots.now c.loop-place.slots c.empty_slot-emptied.new.slots c.args.by_issue.now.items c.loop-place.place c.loop-place.count c.index-slot.result.now c.empty_slot-emptied.result
    c.requires.issued (omega (arith, low)) c.index-slot.ensures c.loop-place.invariant c.empty_slot-emptied.ensures

pub returns-clause-left : goal.returns-clause-left
returns-clause-left g c =
    let end = c.loop-place-test.false in
    let whole = whole_emptied (g.T.Test.passes c.args.test.now) c.args.slots.now c.loop-place.slots c.args.by_issue.now.items c.loop-place.place c.loop-place.count (omega (arith, end)) c.loop-place.invariant in
    all_emptied (g.T.Test.passes c.args.test.now) c.args.slots.now c.loop-place.slots c.args.by_issue.now.items c.loop-place.count c.requires.issued whole

pub returns-clause-count : goal.returns-clause-count
returns-clause-count g c =
    let end = c.loop-place-test.false in
    let whole = whole_emptied (g.T.Test.passes c.args.test.now) c.args.slots.now c.loop-place.slots c.args.by_issue.now.items c.loop-place.place c.loop-place.count (omega (arith, end)) c.loop-place.invariant in
    rows_counted (g.T.Test.passes c.args.test.now) c.args.slots.now c.loop-place.slots c.args.by_issue.now.items c.loop-place.count whole

pub returns-clause-values : goal.returns-clause-values
returns-clause-values g c = c.loop-place.invariant.values

pub returns-clause-capacity : goal.returns-clause-capacity
returns-clause-capacity g c = c.loop-place.invariant.capacity
