use Rattle.std.proofs.Common.{◌≡◌, filter, length, take}
use Rattle.held_rows.specs.Index.{row_at}
use Rattle.held_rows.proofs.Hits.{hit}
use Rattle.held_rows.proofs.stored.Stored.count.Given as goal

-- the slots so far whose rows pass
abbrev pub invariant-loop-place : goal.invariant-loop-place
invariant-loop-place g l = l.count ≡ length (filter (hit (g.T.Test.passes l.test) (row_at l.self.slots)) (take l.place l.index.items))
