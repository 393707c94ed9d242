use Rattle.std.proofs.Common.{arith}
use Rattle.server_desk.specs.Doors.{shared}
use Rattle.serving.proofs.Dealing.{opened_more, others_left, opened_all}
use Rattle.serving.proofs.seats.share_seats.Goals as goal

pub loop-seat-preserved : goal.loop-seat-preserved
loop-seat-preserved g c = record {
  opened = opened_more g.D.Door.state g.D.Door.closings g.D.Door.faults (λ door. shared door (g.D.Door.state c.args.first.now)) c.args.seats.now c.loop-seat.seat-items c.loop-seat.seat-index c.seat-item.result c.share_seat.new.seat c.loop-seat.invariant.opened c.loop-seat.invariant.rest (omega arith) c.share_seat.ensures;
  rest = others_left g.D.Door.state g.D.Door.closings g.D.Door.faults (λ door. shared door (g.D.Door.state c.args.first.now)) c.args.seats.now c.loop-seat.seat-items c.loop-seat.seat-index c.share_seat.new.seat c.loop-seat.invariant.rest;
}

pub returns : goal.returns
returns g c =
    opened_all g.D.Door.state g.D.Door.closings g.D.Door.faults (λ door. shared door (g.D.Door.state c.args.first.now)) c.args.seats.now c.loop-seat.seat-items c.loop-seat.seat-index c.loop-seat.invariant.opened c.loop-seat.auto.seat-items (omega arith)
