use Rattle.std.proofs.Common.{◌≡◌, take, drop}
use Rattle.server_desk.specs.Doors.{shared}
use Rattle.serving.specs.Seating.{AllOpened}
use Rattle.serving.proofs.seats.share_seats.Given as goal

abbrev pub invariant-loop-seat : goal.invariant-loop-seat
invariant-loop-seat g l = record {
  opened : AllOpened g.D.Door.state g.D.Door.closings g.D.Door.faults (λ door. shared door (g.D.Door.state l.first)) (take l.seat-index l.initial.seat-items) (take l.seat-index l.seat-items);
  rest : drop l.seat-index l.seat-items ≡ drop l.seat-index l.initial.seat-items;
}
