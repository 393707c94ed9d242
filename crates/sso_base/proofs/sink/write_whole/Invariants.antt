use Rattle.std.proofs.Common.{◌≤◌, ◌-◌, length, take}
use Rattle.sso_base.specs.Outside.{Takes}
use Rattle.sso_base.proofs.sink.write_whole.Given as goal

-- the front so far was taken, and the count of faults did not fall
abbrev pub invariant-loop-done : goal.invariant-loop-done
invariant-loop-done g l =
    record {
      within : l.done ≤ length l.piece;
      taken : Takes (g.K.Sink.taken l.fn.sink) (g.K.Sink.taken l.sink) (take l.done l.piece);
      later : g.K.Sink.faults l.fn.sink ≤ g.K.Sink.faults l.sink;
    }

abbrev pub decreases-loop-done : goal.decreases-loop-done
decreases-loop-done g l = length l.piece - l.done
