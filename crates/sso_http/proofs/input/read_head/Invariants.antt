use Rattle.std.proofs.Common.{◌≤◌, ◌-◌, length}
use Rattle.server_desk.specs.Sources.{Gives}
use Rattle.sso_http.specs.Input.{most_head}
use Rattle.sso_http.specs.Reading.{Tracks, IsUnended}
use Rattle.sso_http.proofs.input.read_head.Given as goal

-- the bytes so far were given and end no head
abbrev pub invariant-loop-source : goal.invariant-loop-source
invariant-loop-source g l =
    record {
      tracks : Tracks l.head;
      given : Gives (g.S.Source.left l.fn.source) (g.S.Source.left l.source) l.head.bytes.items;
      none : IsUnended l.head.bytes.items;
      within : length l.head.bytes.items ≤ most_head;
      later : g.S.Source.faults l.fn.source ≤ g.S.Source.faults l.source;
    }

abbrev pub decreases-loop-source : goal.decreases-loop-source
decreases-loop-source g l = most_head - length l.head.bytes.items
