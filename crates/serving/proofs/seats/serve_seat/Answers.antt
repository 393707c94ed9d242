use Rattle.turn_store.specs.Passes.{setup_of}
use Rattle.serving.proofs.Seatings.{seat_idle}
use Rattle.serving.proofs.seats.serve_seat.Goals as goal

pub returns-else-seat-clause-served : goal.returns-else-seat-clause-served
returns-else-seat-clause-served g c =
    seat_idle (record { state = g.D.Door.state; closings = g.D.Door.closings; door_faults = g.D.Door.faults; link_state = g.L.Link.state; moments = g.C.Clock.ahead; words = g.W.Draw.ahead; left = g.D.Source.Source.left; read_faults = g.D.Source.Source.faults; taken = g.D.Sink.Sink.taken; write_faults = g.D.Sink.Sink.faults }) (g.X.Role.manner c.args.backend.now.role.now) (g.X.Core.Core.most (setup_of g.X.Core.Core.setup c.args.backend.now.store.now)) c.args.seat.now c.if-seat.false c.requires.idle
