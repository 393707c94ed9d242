use Rattle.std.proofs.Common.{arith}
use Rattle.held_rows.specs.Index.{row_at, stored_rows}
use Rattle.held_rows.proofs.Ends.{removed_is_without, removed_shorter}
use Rattle.held_rows.proofs.Kept.{without_none}
use Rattle.held_rows.proofs.held.Held.remove.Goals as goal

pub returns-in-Some-clause-rows : goal.returns-in-Some-clause-rows
returns-in-Some-clause-rows g c =
    let s = c.self.inside.stored in
    let left = removed_is_without g.R.Row.name (stored_rows s) (stored_rows c.remove.new.self) c.args.name.now (row_at s.slots c.in-Some.held) c.self.invariant.held.distinct c.in-Some.ensures.some.1 c.in-Some.ensures.some.0 c.remove.ensures.row in
    rw (← c.self.view_is, left, c.remove.ensures.capacity)

pub returns-in-Some-clause-bound : goal.returns-in-Some-clause-bound
returns-in-Some-clause-bound g c =
    let s = c.self.inside.stored in
    let less = removed_shorter (row_at s.slots c.in-Some.held) (stored_rows s) (stored_rows c.remove.new.self) c.in-Some.ensures.some.0 c.remove.ensures.row in
    rw (← c.self.view_is) (omega (arith, less))

-- no row has the name
pub returns-in_default-clause-rows : goal.returns-in_default-clause-rows
returns-in_default-clause-rows g c =
    let rows = without_none g.R.Row.name c.args.name.now (stored_rows c.self.inside.stored) c.in_default.ensures.none in
    rw (← c.self.view_is, rows)
