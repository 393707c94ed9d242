use Rattle.std.proofs.Common.{◌≡◌, ◌≤◌, ◌-◌, length, take}
use Rattle.server_desk.specs.Sources.{Gives}
use Rattle.server_desk.proofs.source.read_whole.Given as goal

-- the front so far was given, and the count of faults did not fall
abbrev pub invariant-loop-done : goal.invariant-loop-done
invariant-loop-done g l =
    record {
      same : length l.room ≡ length l.fn.room;
      within : l.done ≤ length l.room;
      given : Gives (g.S.Source.left l.fn.source) (g.S.Source.left l.source) (take l.done l.room);
      later : g.S.Source.faults l.fn.source ≤ g.S.Source.faults l.source;
    }

abbrev pub decreases-loop-done : goal.decreases-loop-done
decreases-loop-done g l = length l.room - l.done
