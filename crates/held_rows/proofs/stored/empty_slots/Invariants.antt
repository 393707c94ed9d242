use Rattle.std.proofs.Common.{take}
use Rattle.held_rows.proofs.Swept.{Emptied}
use Rattle.held_rows.proofs.stored.empty_slots.Given as goal

-- the slots so far are emptied
abbrev pub invariant-loop-place : goal.invariant-loop-place
invariant-loop-place g l = Emptied (g.T.Test.passes l.test) l.fn.slots l.slots (take l.place l.by_issue.items) l.count
