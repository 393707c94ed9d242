use Rattle.std.proofs.Common.{◌≤◌, length, ap, sym, ◌∙◌, arith}
use Rattle.held_rows.specs.Index.{row_at, stored_rows}
use Rattle.held_rows.proofs.Ends.{all_stay, none_pass, passed_out}
use Rattle.held_rows.proofs.HeldLaws.{filter_short}
use Rattle.held_rows.proofs.stored.Stored.take_each.Goals as goal

-- no more pass than rows are held
pub overflow_add-count : goal.overflow_add-count
overflow_add-count g c =
    let few : length (stored_rows c.args.self.now) ≤ 65536 = c.requires.held.few in
    let short = filter_short (g.T.Test.passes c.args.test.now) (stored_rows c.args.self.now) in
    let count = c.loop-slot.invariant.count in
    omega (arith, few, short, count)

pub loop-slot-smaller : goal.loop-slot-smaller
loop-slot-smaller g c =
    let out = passed_out (g.T.Test.passes c.args.test.now) (row_at c.loop-slot.self.slots c.in-Some.slot) (stored_rows c.loop-slot.self) (stored_rows c.remove.new.self) c.in-Some.ensures.some.0 c.in-Some.ensures.some.1 c.remove.ensures.row in
    let shorter = out.shorter in
    omega (arith, shorter)

pub loop-slot-preserved : goal.loop-slot-preserved
loop-slot-preserved g c =
    let out = passed_out (g.T.Test.passes c.args.test.now) (row_at c.loop-slot.self.slots c.in-Some.slot) (stored_rows c.loop-slot.self) (stored_rows c.remove.new.self) c.in-Some.ensures.some.0 c.in-Some.ensures.some.1 c.remove.ensures.row in
    let one_less = out.count in
    let count = c.loop-slot.invariant.count in
    record {
      stored = c.remove.ensures.stored;
      others = out.others ∙ c.loop-slot.invariant.others;
      count = omega (arith, one_less, count);
      capacity = c.remove.ensures.capacity ∙ c.loop-slot.invariant.capacity;
    }

-- none passes any more
pub returns-clause-rows : goal.returns-clause-rows
returns-clause-rows g c =
    sym (all_stay (g.T.Test.passes c.args.test.now) (stored_rows c.loop-slot.self) (sym c.in_default.ensures.any)) ∙ c.loop-slot.invariant.others

pub returns-clause-count : goal.returns-clause-count
returns-clause-count g c =
    let rest = ap length (none_pass (g.T.Test.passes c.args.test.now) (stored_rows c.loop-slot.self) (sym c.in_default.ensures.any)) in
    let count = c.loop-slot.invariant.count in
    omega (arith, rest, count)
