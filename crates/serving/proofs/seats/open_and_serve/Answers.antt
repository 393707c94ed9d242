use Rattle.turn_store.specs.Passes.{IsPassOf}
use Rattle.turn_store.proofs.Ending.{all_by, by_all}
use Rattle.serving.specs.Summaries.{Telling}
use Rattle.serving.proofs.Seatings.{Ready}
use Rattle.serving.proofs.Summing.{ready_opened}
use Rattle.serving.proofs.seats.open_and_serve.Goals as goal

pub serve_seats-requires-clause-seats : goal.serve_seats-requires-clause-seats
serve_seats-requires-clause-seats g c κs within =
    let t : Telling g.row.D.Denot g.row.L.Denot g.row.C.Denot g.row.W.Denot g.row.D-Source.Denot g.row.D-Sink.Denot = record { state = g.D.Door.state; closings = g.D.Door.closings; door_faults = g.D.Door.faults; link_state = g.L.Link.state; moments = g.C.Clock.ahead; words = g.W.Draw.ahead; left = g.D.Source.Source.left; read_faults = g.D.Source.Source.faults; taken = g.D.Sink.Sink.taken; write_faults = g.D.Sink.Sink.faults } in
    by_all (Ready t (IsPassOf g.X.Core.Core.setup g.X.Core.Core.is_legal c.args.backend.now.store.now)) c.open_doors.new.seats
    (ready_opened t (IsPassOf g.X.Core.Core.setup g.X.Core.Core.is_legal c.args.backend.now.store.now) c.args.place.now c.args.seats.now c.open_doors.new.seats c.open_doors.ensures
    (all_by (Ready t (IsPassOf g.X.Core.Core.setup g.X.Core.Core.is_legal c.args.backend.now.store.now)) c.args.seats.now c.requires.seats))
