use Rattle.std.proofs.Common.{◌≡◌, length}
use Rattle.cookie_jars.proofs.Jarring.{AreStolen}
use Rattle.cookie_jars.proofs.jars.steal_in_all.Given as goal

abbrev pub invariant-loop-n : goal.invariant-loop-n
invariant-loop-n l = record {
  all : l.n-end ≡ length l.maps.items;
  stolen : AreStolen l.fn.maps.items l.maps.items l.n l.thief l.owner;
}
