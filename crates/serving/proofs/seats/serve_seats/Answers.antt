use Rattle.std.proofs.Common.{slice_index_or, subst, arith}
use Rattle.std.proofs.Crossing.{crosses}
use denote.Param.Send.{sendable}
use Rattle.turn_store.specs.Passes.{IsPassOf, setup_of}
use Rattle.serving.proofs.Sharing.{backend_is_shared}
use Rattle.serving.proofs.Seatings.{seats_served, seat_left}
use Rattle.serving.proofs.seats.serve_seats.Goals as goal

pub for_each_mut-requires-sync-F : goal.for_each_mut-requires-sync-F
for_each_mut-requires-sync-F g c κs within = search (backend_is_shared, crosses, sendable) depth 60 fits 20000

pub for_each_mut-requires-clause-accepts : goal.for_each_mut-requires-clause-accepts
for_each_mut-requires-clause-accepts g c κs within = λ i p lt e.
    let at = c.requires.seats i p.now lt in (
      (rw e (c.requires.ready, at.0, at.1, at.2, at.3)),
      (search sendable depth 40),
    )

pub returns-clause-passes : goal.returns-clause-passes
returns-clause-passes g c = λ k d lt.
    let long = c.for_each_mut.auto.s in
    let at = (c.for_each_mut.ensures k d (omega arith)).1 in
    subst (λ s. IsPassOf g.X.Core.Core.setup g.X.Core.Core.is_legal c.args.backend.now.store.now s.pass) {y = slice_index_or c.for_each_mut.new.s k d} at.left at.call.0

pub returns-clause-served : goal.returns-clause-served
returns-clause-served g c =
    let long = c.for_each_mut.auto.s in
    seats_served (record { state = g.D.Door.state; closings = g.D.Door.closings; door_faults = g.D.Door.faults; link_state = g.L.Link.state; moments = g.C.Clock.ahead; words = g.W.Draw.ahead; left = g.D.Source.Source.left; read_faults = g.D.Source.Source.faults; taken = g.D.Sink.Sink.taken; write_faults = g.D.Sink.Sink.faults }) (g.X.Role.manner c.args.backend.now.role.now) (g.X.Core.Core.most (setup_of g.X.Core.Core.setup c.args.backend.now.store.now))
    c.args.seats.now c.for_each_mut.new.s (omega arith) (λ i d lt.
    let at = (c.for_each_mut.ensures i d lt).1 in
    seat_left (record { state = g.D.Door.state; closings = g.D.Door.closings; door_faults = g.D.Door.faults; link_state = g.L.Link.state; moments = g.C.Clock.ahead; words = g.W.Draw.ahead; left = g.D.Source.Source.left; read_faults = g.D.Source.Source.faults; taken = g.D.Sink.Sink.taken; write_faults = g.D.Sink.Sink.faults }) (g.X.Role.manner c.args.backend.now.role.now) (g.X.Core.Core.most (setup_of g.X.Core.Core.setup c.args.backend.now.store.now))
    (slice_index_or c.args.seats.now i d) (slice_index_or c.for_each_mut.new.s i d) at.argument.now at.after_call.now at.argument_is at.left at.call.1)
