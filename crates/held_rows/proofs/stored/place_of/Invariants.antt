use Rattle.std.proofs.Common.{ℕ, ◌<◌, ◌≢◌, get_or}
use Rattle.held_rows.proofs.stored.place_of.Given as goal

-- the slot is at none of the places before
abbrev pub invariant-loop-place : goal.invariant-loop-place
invariant-loop-place g l = (k : ℕ) → k < l.place → get_or l.by_issue.items k 0 ≢ l.slot
