use Rattle.std.proofs.Common.{◌≡◌, ◌+◌, length}
use Rattle.std.specs.VecDeque.Iter.{deque_iter_rest}
use Rattle.sso_base.specs.Rows.{live_rows}
use Rattle.held_rows.specs.Index.{rows_at, stored_rows}
use Rattle.held_rows.proofs.stored.Stored.count_all_live.Given as goal

-- the rows that were counted, and those to come
abbrev pub invariant-loop-slot : goal.invariant-loop-slot
invariant-loop-slot g l =
    l.count + length (live_rows g.R.Row.LIFE g.R.Row.begun l.at (rows_at l.self.slots (deque_iter_rest l.slot-iterator)))
    ≡ length (live_rows g.R.Row.LIFE g.R.Row.begun l.at (stored_rows l.self))
