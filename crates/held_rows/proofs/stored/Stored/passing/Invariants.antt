use Rattle.std.proofs.Common.{◌≡◌, false, take}
use Rattle.std.specs.List.{list_any}
use Rattle.held_rows.specs.Index.{row_at}
use Rattle.held_rows.proofs.Hits.{hit}
use Rattle.held_rows.proofs.stored.Stored.passing.Given as goal

-- no slot so far has a row that passes
abbrev pub invariant-loop-place : goal.invariant-loop-place
invariant-loop-place g l = list_any (hit (g.T.Test.passes l.test) (row_at l.self.slots)) (take l.place l.index.items) ≡ false
