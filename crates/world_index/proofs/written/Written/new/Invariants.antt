use Rattle.std.proofs.Common.{◌≡◌, length}
use Rattle.world_index.proofs.TextSets.{AreEmpty}
use Rattle.world_index.proofs.written.Written.new.Given as goal

abbrev pub invariant-loop : goal.invariant-loop
invariant-loop l = (length l.sets.items ≡ l.counter) × AreEmpty l.sets.items
