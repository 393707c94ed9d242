use Rattle.std.proofs.Common.{◌≤◌, ◌-◌, length}
use Rattle.platform.proofs.shelf.read_front.Given as goal

abbrev pub invariant-loop-piece : goal.invariant-loop-piece
invariant-loop-piece g l = length l.front.items ≤ l.most

abbrev pub decreases-loop-piece : goal.decreases-loop-piece
decreases-loop-piece g l = l.most - length l.front.items
