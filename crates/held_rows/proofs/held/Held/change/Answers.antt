use Rattle.std.proofs.Common.{arith}
use Rattle.held_rows.specs.Index.{row_at, stored_rows}
use Rattle.held_rows.proofs.Changing.{changed_none}
use Rattle.held_rows.proofs.Ends.{replaced_is_changed, replaced_as_long}
use Rattle.held_rows.proofs.held.Held.change.Goals as goal

pub returns-in-Some-clause-rows : goal.returns-in-Some-clause-rows
returns-in-Some-clause-rows g c =
    let s = c.self.inside.stored in
    let made = replaced_is_changed g.R.Row.name (g.C.Change.changed c.args.change.now) (stored_rows s) (stored_rows c.change.new.self) c.args.name.now (row_at s.slots c.in-Some.slot) c.self.invariant.held.distinct c.in-Some.ensures.some.1 c.in-Some.ensures.some.0 c.change.ensures.row in
    rw (← c.self.view_is, made, c.change.ensures.capacity)

pub returns-in-Some-clause-bound : goal.returns-in-Some-clause-bound
returns-in-Some-clause-bound g c =
    let s = c.self.inside.stored in
    let as_long = replaced_as_long (g.C.Change.changed c.args.change.now) (row_at s.slots c.in-Some.slot) (stored_rows s) (stored_rows c.change.new.self) c.in-Some.ensures.some.0 c.change.ensures.row in
    rw (← c.self.view_is) (omega (arith, as_long))

-- no row has the name
pub returns-in_default-clause-rows : goal.returns-in_default-clause-rows
returns-in_default-clause-rows g c =
    let rows = changed_none g.R.Row.name c.args.name.now (g.C.Change.changed c.args.change.now) (stored_rows c.self.inside.stored) c.in_default.ensures.none in
    rw (← c.self.view_is, rows)
