use Rattle.std.proofs.Common.{◌≡◌, ◌+◌, not, filter, length}
use Rattle.held_rows.specs.Index.{IsStored, stored_rows, stored_capacity}
use Rattle.held_rows.proofs.stored.Stored.take_each.Given as goal

-- those that don't pass are as they were, and those that pass are counted or still there
abbrev pub invariant-loop-slot : goal.invariant-loop-slot
invariant-loop-slot g l = record {
  stored : IsStored g.R.Row.name g.R.Row.key g.R.Row.begun g.R.Row.IsSound l.self;
  others : filter (λ row. not (g.T.Test.passes l.test row)) (stored_rows l.self) ≡ filter (λ row. not (g.T.Test.passes l.test row)) (stored_rows l.fn.self);
  count : l.count + length (filter (g.T.Test.passes l.test) (stored_rows l.self)) ≡ length (filter (g.T.Test.passes l.test) (stored_rows l.fn.self));
  capacity : stored_capacity l.self ≡ stored_capacity l.fn.self;
}

abbrev pub decreases-loop-slot : goal.decreases-loop-slot
decreases-loop-slot g l = length (stored_rows l.self)
