use Rattle.std.proofs.Common.{◌≡◌, length}
use Rattle.sso_base.specs.Rows.{live_rows}
use Rattle.held_rows.specs.Index.{IsStored, stored_rows, stored_capacity}
use Rattle.held_rows.proofs.stored.Stored.purge.Given as goal

-- what lives is as it was
abbrev pub invariant-loop-slot : goal.invariant-loop-slot
invariant-loop-slot g l = record {
  stored : IsStored g.R.Row.name g.R.Row.key g.R.Row.begun g.R.Row.IsSound l.self;
  live : live_rows g.R.Row.LIFE g.R.Row.begun l.at (stored_rows l.self) ≡ live_rows g.R.Row.LIFE g.R.Row.begun l.at (stored_rows l.fn.self);
  capacity : stored_capacity l.self ≡ stored_capacity l.fn.self;
}

abbrev pub decreases-loop-slot : goal.decreases-loop-slot
decreases-loop-slot g l = length (stored_rows l.self)
