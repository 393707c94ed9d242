use Rattle.std.proofs.Common.{arith, ℕ}
use Rattle.std.proofs.lemmas.List.{take_rest, length-drop, length-take}
use Rattle.sso_base.proofs.Sinks.{takes_more}
use Rattle.sso_base.proofs.sink.write_whole.Goals as goal

pub loop-done-preserved : goal.loop-done-preserved
loop-done-preserved g c =
    record {
      within = omega (arith, c.in_ok-count.ensures.bound, length-take {A = ℕ}, length-drop {A = ℕ});
      taken = takes_more _ _ _ _ _ _ c.loop-done.invariant.taken (simp take_rest at c.in_ok-count.ensures.taken);
      later = omega (arith, c.in_ok-count.ensures.cause.later);
    }
