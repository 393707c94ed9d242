use Rattle.std.proofs.Common.{◌≡◌, ◌^◌, ◌≤◌, ◌<◌, ◌++◌, map, length, take, drop, ap, refl, sym, subst, ◌∙◌, arith}
use Rattle.std.specs.List.{AllByRecursion}
use Rattle.turn_store.specs.Passes.{IsPassOf, HasDoneNothing, number_of, setup_of}
use Rattle.turn_store.proofs.Ending.{all_by, by_all}
use Rattle.serving.specs.Seating.{seated}
use Rattle.serving.specs.Summaries.{Telling}
use Rattle.serving.proofs.Seatings.{Ready}
use Rattle.serving.proofs.Summing.{same_list, whole_list, seated_length, passes_same, passes_back, ready_seated, whole_from, whole_bound, whole_numbers, summarised}
use Rattle.serving.proofs.server.serve_desks.Goals as goal

pub open_and_serve-requires-clause-some : goal.open_and_serve-requires-clause-some
open_and_serve-requires-clause-some g c κs within =
    let sits = same_list c.as_mut_slice.result.now c.sit.new.seats.items (seated c.args.desks.now.items c.args.passes.items) c.as_mut_slice.ensures.value c.sit.ensures.seats in
    let many = seated_length c.args.desks.now.items c.args.passes.items c.requires.same in
    let count : length c.as_mut_slice.result.now ≡ length c.args.desks.now.items = ap (λ l. length l) sits ∙ many in
    let some = c.requires.some in omega arith

pub open_and_serve-requires-clause-seats : goal.open_and_serve-requires-clause-seats
open_and_serve-requires-clause-seats g c κs within =
    let t : Telling g.row.D.Denot g.row.L.Denot g.row.C.Denot g.row.W.Denot g.row.D-Source.Denot g.row.D-Sink.Denot = record { state = g.D.Door.state; closings = g.D.Door.closings; door_faults = g.D.Door.faults; link_state = g.L.Link.state; moments = g.C.Clock.ahead; words = g.W.Draw.ahead; left = g.D.Source.Source.left; read_faults = g.D.Source.Source.faults; taken = g.D.Sink.Sink.taken; write_faults = g.D.Sink.Sink.faults } in
    let sits = same_list c.as_mut_slice.result.now c.sit.new.seats.items (seated c.args.desks.now.items c.args.passes.items) c.as_mut_slice.ensures.value c.sit.ensures.seats in
    by_all (Ready t (IsPassOf g.X.Core.Core.setup g.X.Core.Core.is_legal c.args.store)) c.as_mut_slice.result.now
    (subst (λ l. AllByRecursion (Ready t (IsPassOf g.X.Core.Core.setup g.X.Core.Core.is_legal c.args.store)) l) (sym sits)
    (ready_seated t (IsPassOf g.X.Core.Core.setup g.X.Core.Core.is_legal c.args.store) c.args.desks.now.items c.args.passes.items (all_by (λ d. (d.turns ≤ 2 ^ 56) × ((g.D.Door.state d.door).given < 2 ^ 63)) c.args.desks.now.items c.requires.desks) (all_by (IsPassOf g.X.Core.Core.setup g.X.Core.Core.is_legal c.args.store) c.args.passes.items c.requires.passes)))

pub rise-count-requires-clause-few : goal.rise-count-requires-clause-few
rise-count-requires-clause-few g c κs within =
    let sits = same_list c.as_mut_slice.result.now c.sit.new.seats.items (seated c.args.desks.now.items c.args.passes.items) c.as_mut_slice.ensures.value c.sit.ensures.seats in
    let many = seated_length c.args.desks.now.items c.args.passes.items c.requires.same in
    let count : length c.as_mut_slice.result.now ≡ length c.args.desks.now.items = ap (λ l. length l) sits ∙ many in
    let long : length c.as_mut_slice.result.now ≡ length c.sit.new.seats.items = ap (λ l. length l) c.as_mut_slice.ensures.value in
    let kept = c.sit.new.seats.ok in let left = c.open_and_serve.auto.seats in let len = c.as_mut_slice.ensures.len in
    let back = whole_list c.sit.new.seats.len c.open_and_serve.new.seats c.sit.new.seats.items (omega arith) (omega arith) in
    let few = c.requires.few in
    rw back (omega arith)

pub rise-count-requires-clause-served : goal.rise-count-requires-clause-served
rise-count-requires-clause-served g c κs within =
    let t : Telling g.row.D.Denot g.row.L.Denot g.row.C.Denot g.row.W.Denot g.row.D-Source.Denot g.row.D-Sink.Denot = record { state = g.D.Door.state; closings = g.D.Door.closings; door_faults = g.D.Door.faults; link_state = g.L.Link.state; moments = g.C.Clock.ahead; words = g.W.Draw.ahead; left = g.D.Source.Source.left; read_faults = g.D.Source.Source.faults; taken = g.D.Sink.Sink.taken; write_faults = g.D.Sink.Sink.faults } in
    let sits = same_list c.as_mut_slice.result.now c.sit.new.seats.items (seated c.args.desks.now.items c.args.passes.items) c.as_mut_slice.ensures.value c.sit.ensures.seats in
    let many = seated_length c.args.desks.now.items c.args.passes.items c.requires.same in
    let count : length c.as_mut_slice.result.now ≡ length c.args.desks.now.items = ap (λ l. length l) sits ∙ many in
    let long : length c.as_mut_slice.result.now ≡ length c.sit.new.seats.items = ap (λ l. length l) c.as_mut_slice.ensures.value in
    let kept = c.sit.new.seats.ok in let left = c.open_and_serve.auto.seats in let len = c.as_mut_slice.ensures.len in
    let back = whole_list c.sit.new.seats.len c.open_and_serve.new.seats c.sit.new.seats.items (omega arith) (omega arith) in
    let w = whole_from t (g.X.Role.manner c.args.role.now) (g.X.Core.Core.most (setup_of g.X.Core.Core.setup c.args.store)) c.args.place.now c.args.desks.now.items c.args.passes.items c.as_mut_slice.result.now c.open_and_serve.new.seats c.requires.same sits c.open_and_serve.ensures.served in
    rw back (by_all (λ s. s.worked.served ≤ 2 ^ 56) c.open_and_serve.new.seats (whole_bound t (g.X.Role.manner c.args.role.now) (g.X.Core.Core.most (setup_of g.X.Core.Core.setup c.args.store)) c.args.place.now c.args.desks.now.items c.args.passes.items c.open_and_serve.new.seats w (all_by (λ d. (d.turns ≤ 2 ^ 56) × ((g.D.Door.state d.door).given < 2 ^ 63)) c.args.desks.now.items c.requires.desks)))

pub rise-count-requires-clause-room : goal.rise-count-requires-clause-room
rise-count-requires-clause-room g c κs within =
    let sits = same_list c.as_mut_slice.result.now c.sit.new.seats.items (seated c.args.desks.now.items c.args.passes.items) c.as_mut_slice.ensures.value c.sit.ensures.seats in
    let many = seated_length c.args.desks.now.items c.args.passes.items c.requires.same in
    let count : length c.as_mut_slice.result.now ≡ length c.args.desks.now.items = ap (λ l. length l) sits ∙ many in
    let long : length c.as_mut_slice.result.now ≡ length c.sit.new.seats.items = ap (λ l. length l) c.as_mut_slice.ensures.value in
    let kept = c.sit.new.seats.ok in let left = c.open_and_serve.auto.seats in let len = c.as_mut_slice.ensures.len in
    let back = whole_list c.sit.new.seats.len c.open_and_serve.new.seats c.sit.new.seats.items (omega arith) (omega arith) in
    let same = c.requires.same in let desks = c.sit.ensures.desks.1 in let passes = c.sit.ensures.passes.1 in
    rw back (omega arith, omega arith)

pub close-closed-requires-clause-passes : goal.close-closed-requires-clause-passes
close-closed-requires-clause-passes g c κs within =
    let sits = same_list c.as_mut_slice.result.now c.sit.new.seats.items (seated c.args.desks.now.items c.args.passes.items) c.as_mut_slice.ensures.value c.sit.ensures.seats in
    let many = seated_length c.args.desks.now.items c.args.passes.items c.requires.same in
    let count : length c.as_mut_slice.result.now ≡ length c.args.desks.now.items = ap (λ l. length l) sits ∙ many in
    let long : length c.as_mut_slice.result.now ≡ length c.sit.new.seats.items = ap (λ l. length l) c.as_mut_slice.ensures.value in
    let kept = c.sit.new.seats.ok in let left = c.open_and_serve.auto.seats in let len = c.as_mut_slice.ensures.len in
    let back = whole_list c.sit.new.seats.len c.open_and_serve.new.seats c.sit.new.seats.items (omega arith) (omega arith) in
    let passes_are = passes_same c.rise-count.new.passes.items (take c.sit.new.seats.len (c.open_and_serve.new.seats ++ drop (length c.open_and_serve.new.seats) c.sit.new.seats.items)) c.open_and_serve.new.seats c.rise-count.ensures.passes back in
    passes_back (IsPassOf g.X.Core.Core.setup g.X.Core.Core.is_legal c.args.store) c.rise-count.new.passes.items c.open_and_serve.new.seats passes_are c.open_and_serve.ensures.passes

pub close-closed-requires-clause-order : goal.close-closed-requires-clause-order
close-closed-requires-clause-order g c κs within =
    let t : Telling g.row.D.Denot g.row.L.Denot g.row.C.Denot g.row.W.Denot g.row.D-Source.Denot g.row.D-Sink.Denot = record { state = g.D.Door.state; closings = g.D.Door.closings; door_faults = g.D.Door.faults; link_state = g.L.Link.state; moments = g.C.Clock.ahead; words = g.W.Draw.ahead; left = g.D.Source.Source.left; read_faults = g.D.Source.Source.faults; taken = g.D.Sink.Sink.taken; write_faults = g.D.Sink.Sink.faults } in
    let sits = same_list c.as_mut_slice.result.now c.sit.new.seats.items (seated c.args.desks.now.items c.args.passes.items) c.as_mut_slice.ensures.value c.sit.ensures.seats in
    let many = seated_length c.args.desks.now.items c.args.passes.items c.requires.same in
    let count : length c.as_mut_slice.result.now ≡ length c.args.desks.now.items = ap (λ l. length l) sits ∙ many in
    let long : length c.as_mut_slice.result.now ≡ length c.sit.new.seats.items = ap (λ l. length l) c.as_mut_slice.ensures.value in
    let kept = c.sit.new.seats.ok in let left = c.open_and_serve.auto.seats in let len = c.as_mut_slice.ensures.len in
    let back = whole_list c.sit.new.seats.len c.open_and_serve.new.seats c.sit.new.seats.items (omega arith) (omega arith) in
    let w = whole_from t (g.X.Role.manner c.args.role.now) (g.X.Core.Core.most (setup_of g.X.Core.Core.setup c.args.store)) c.args.place.now c.args.desks.now.items c.args.passes.items c.as_mut_slice.result.now c.open_and_serve.new.seats c.requires.same sits c.open_and_serve.ensures.served in
    let passes_are = passes_same c.rise-count.new.passes.items (take c.sit.new.seats.len (c.open_and_serve.new.seats ++ drop (length c.open_and_serve.new.seats) c.sit.new.seats.items)) c.open_and_serve.new.seats c.rise-count.ensures.passes back in
    ap (λ l. map number_of l) passes_are ∙ whole_numbers t (g.X.Role.manner c.args.role.now) (g.X.Core.Core.most (setup_of g.X.Core.Core.setup c.args.store)) c.args.place.now c.args.desks.now.items c.args.passes.items c.open_and_serve.new.seats w ∙ c.requires.order

pub returns : goal.returns
returns g c =
    let t : Telling g.row.D.Denot g.row.L.Denot g.row.C.Denot g.row.W.Denot g.row.D-Source.Denot g.row.D-Sink.Denot = record { state = g.D.Door.state; closings = g.D.Door.closings; door_faults = g.D.Door.faults; link_state = g.L.Link.state; moments = g.C.Clock.ahead; words = g.W.Draw.ahead; left = g.D.Source.Source.left; read_faults = g.D.Source.Source.faults; taken = g.D.Sink.Sink.taken; write_faults = g.D.Sink.Sink.faults } in
    let sits = same_list c.as_mut_slice.result.now c.sit.new.seats.items (seated c.args.desks.now.items c.args.passes.items) c.as_mut_slice.ensures.value c.sit.ensures.seats in
    let many = seated_length c.args.desks.now.items c.args.passes.items c.requires.same in
    let count : length c.as_mut_slice.result.now ≡ length c.args.desks.now.items = ap (λ l. length l) sits ∙ many in
    let long : length c.as_mut_slice.result.now ≡ length c.sit.new.seats.items = ap (λ l. length l) c.as_mut_slice.ensures.value in
    let kept = c.sit.new.seats.ok in let left = c.open_and_serve.auto.seats in let len = c.as_mut_slice.ensures.len in
    let back = whole_list c.sit.new.seats.len c.open_and_serve.new.seats c.sit.new.seats.items (omega arith) (omega arith) in
    let w = whole_from t (g.X.Role.manner c.args.role.now) (g.X.Core.Core.most (setup_of g.X.Core.Core.setup c.args.store)) c.args.place.now c.args.desks.now.items c.args.passes.items c.as_mut_slice.result.now c.open_and_serve.new.seats c.requires.same sits c.open_and_serve.ensures.served in
    summarised t (g.X.Role.manner c.args.role.now) (g.X.Core.Core.most (setup_of g.X.Core.Core.setup c.args.store)) c.args.place.now c.args.desks.now.items c.args.passes.items c.open_and_serve.new.seats w
    g.X.Core.Core.most g.X.Core.Core.setup g.X.Core.Core.history g.X.Core.Core.is_legal (setup_of g.X.Core.Core.setup c.args.store)
    (take c.sit.new.seats.len (c.open_and_serve.new.seats ++ drop (length c.open_and_serve.new.seats) c.sit.new.seats.items))
    c.rise-count.new.desks.items c.rise-count.new.passes.items c.close-closed.result c.rise-count.result.served c.count.result c.rise-count.result.fault
    refl (all_by HasDoneNothing c.args.passes.items c.requires.fresh)
    back c.rise-count.ensures.desks c.rise-count.ensures.passes c.rise-count.ensures.served c.rise-count.ensures.fault
    c.close-closed.ensures.setup c.close-closed.ensures.legal c.close-closed.ensures.fronts c.close-closed.ensures.lists c.close-closed.ensures.once
    c.count.ensures.count
