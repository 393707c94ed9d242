use Rattle.std.proofs.Common.{◌≡◌, ◌∙◌, [], ◌∷◌, ◌++◌, length, sym, ap, subst, refl, arith}
use Rattle.std.specs.List.{AllByRecursion}
use Rattle.turn_store.specs.Places.{Begins, StandsIn, total, times}
use Rattle.turn_store.specs.Passes.{passes_of, IsPassOf, front_of, calls_of, start_of}
use Rattle.turn_store.specs.Seats.{lists_of}
use Rattle.turn_store.proofs.Ending.{passes_count, all_by, by_all, removed, closed, comes_out, all_idle, fronts_begin, calls_stand, lists_are, once, empty_list}
use Rattle.turn_store.proofs.store.Turn.close.Goals as goal

pub remove-seat-requires : goal.remove-seat-requires
remove-seat-requires g c = let all = passes_count c.args.passes.items (passes_of c.args.self) c.requires.order in omega (arith, all, c.args.passes.ok.0, c.args.self.some)

pub gather-requires-clause-room : goal.gather-requires-clause-room
gather-requires-clause-room g c κs within =
    let all = passes_count c.args.passes.items (passes_of c.args.self) c.requires.order in
    let left = c.remove-seat.ensures.len in
    let len = c.push_reserved.ensures.len in
    let capacity = c.push_reserved.ensures.capacity in
    omega (arith, all, c.args.passes.ok.0, c.remove-seat.new.self.ok.0, left, len, capacity, c.args.self.lists.ok.0, c.args.self.room.0, c.args.self.room.1)

pub gather-requires-clause-idle : goal.gather-requires-clause-idle
gather-requires-clause-idle g c κs within =
    let all = passes_count c.args.passes.items (passes_of c.args.self) c.requires.order in
    let cut = removed c.args.passes.items c.remove-seat.new.self.items c.remove-seat.result (omega (arith, all, c.args.self.some)) c.remove-seat.ensures.value c.remove-seat.ensures.items in
    let good = all_by (IsPassOf g.C.Core.setup g.C.Core.is_legal c.args.self) c.args.passes.items c.requires.passes in
    let both : AllByRecursion (IsPassOf g.C.Core.setup g.C.Core.is_legal c.args.self) (c.remove-seat.result ∷ c.remove-seat.new.self.items) = subst (λ ps. AllByRecursion (IsPassOf g.C.Core.setup g.C.Core.is_legal c.args.self) ps) cut good in
    (both.0.empty, both.0.waits)

pub gather-requires-clause-passes : goal.gather-requires-clause-passes
gather-requires-clause-passes g c κs within =
    let all = passes_count c.args.passes.items (passes_of c.args.self) c.requires.order in
    let cut = removed c.args.passes.items c.remove-seat.new.self.items c.remove-seat.result (omega (arith, all, c.args.self.some)) c.remove-seat.ensures.value c.remove-seat.ensures.items in
    let good = all_by (IsPassOf g.C.Core.setup g.C.Core.is_legal c.args.self) c.args.passes.items c.requires.passes in
    let both : AllByRecursion (IsPassOf g.C.Core.setup g.C.Core.is_legal c.args.self) (c.remove-seat.result ∷ c.remove-seat.new.self.items) = subst (λ ps. AllByRecursion (IsPassOf g.C.Core.setup g.C.Core.is_legal c.args.self) ps) cut good in
    all_idle g.C.Core.setup g.C.Core.is_legal c.args.self c.remove-seat.new.self.items both.1

pub unwrap-requires : goal.unwrap-requires
unwrap-requires g c =
    let all = passes_count c.args.passes.items (passes_of c.args.self) c.requires.order in
    let cut = removed c.args.passes.items c.remove-seat.new.self.items c.remove-seat.result (omega (arith, all, c.args.self.some)) c.remove-seat.ensures.value c.remove-seat.ensures.items in
    let slot = closed g.C.Core.history g.C.Core.setup g.C.Core.is_legal c.args.self c.args.passes.items c.remove-seat.new.self.items c.remove-seat.result c.gather.new.seat.id c.gather.new.seat.me _ _ c.take-slot.result c.requires.passes all cut c.gather.ensures.idle.1 c.gather.ensures.passes
    c.close_with-closed.ensures.values.2 c.take-slot.ensures.value in
    rw slot.1 refl

pub returns-clause-fronts : goal.returns-clause-fronts
returns-clause-fronts g c =
    let all = passes_count c.args.passes.items (passes_of c.args.self) c.requires.order in
    let cut = removed c.args.passes.items c.remove-seat.new.self.items c.remove-seat.result (omega (arith, all, c.args.self.some)) c.remove-seat.ensures.value c.remove-seat.ensures.items in
    let slot = closed g.C.Core.history g.C.Core.setup g.C.Core.is_legal c.args.self c.args.passes.items c.remove-seat.new.self.items c.remove-seat.result c.gather.new.seat.id c.gather.new.seat.me _ _ c.take-slot.result c.requires.passes all cut c.gather.ensures.idle.1 c.gather.ensures.passes
    c.close_with-closed.ensures.values.2 c.take-slot.ensures.value in
    let out = comes_out g.C.Core.history g.C.Core.setup g.C.Core.is_legal c.args.self c.args.passes.items c.take-slot.result c.unwrap.result slot c.unwrap.ensures in
    let good = all_by (IsPassOf g.C.Core.setup g.C.Core.is_legal c.args.self) c.args.passes.items c.requires.passes in
    by_all (λ pass. Begins (front_of pass) (g.C.Core.history c.unwrap.result)) c.args.passes.items (fronts_begin g.C.Core.setup g.C.Core.is_legal c.args.self (start_of c.args.self) (g.C.Core.history c.unwrap.result) c.args.passes.items good out.sound)

pub returns-clause-stand : goal.returns-clause-stand
returns-clause-stand g c =
    let all = passes_count c.args.passes.items (passes_of c.args.self) c.requires.order in
    let cut = removed c.args.passes.items c.remove-seat.new.self.items c.remove-seat.result (omega (arith, all, c.args.self.some)) c.remove-seat.ensures.value c.remove-seat.ensures.items in
    let slot = closed g.C.Core.history g.C.Core.setup g.C.Core.is_legal c.args.self c.args.passes.items c.remove-seat.new.self.items c.remove-seat.result c.gather.new.seat.id c.gather.new.seat.me _ _ c.take-slot.result c.requires.passes all cut c.gather.ensures.idle.1 c.gather.ensures.passes
    c.close_with-closed.ensures.values.2 c.take-slot.ensures.value in
    let out = comes_out g.C.Core.history g.C.Core.setup g.C.Core.is_legal c.args.self c.args.passes.items c.take-slot.result c.unwrap.result slot c.unwrap.ensures in
    let good = all_by (IsPassOf g.C.Core.setup g.C.Core.is_legal c.args.self) c.args.passes.items c.requires.passes in
    by_all (λ pass. AllByRecursion (StandsIn (g.C.Core.history c.unwrap.result)) (calls_of pass)) c.args.passes.items (calls_stand g.C.Core.setup g.C.Core.is_legal c.args.self (start_of c.args.self) (g.C.Core.history c.unwrap.result) c.args.passes.items good out.sound)

pub returns-clause-lists : goal.returns-clause-lists
returns-clause-lists g c =
    let all = passes_count c.args.passes.items (passes_of c.args.self) c.requires.order in
    let cut = removed c.args.passes.items c.remove-seat.new.self.items c.remove-seat.result (omega (arith, all, c.args.self.some)) c.remove-seat.ensures.value c.remove-seat.ensures.items in
    let good = all_by (IsPassOf g.C.Core.setup g.C.Core.is_legal c.args.self) c.args.passes.items c.requires.passes in
    let lists : c.from_lists.result ≡ lists_of c.args.passes.items = c.from_lists.ensures ∙ c.gather.ensures.lists ∙ ap (λ l. l ++ lists_of c.remove-seat.new.self.items) (c.push_reserved.ensures.items ∙ ap (λ l. l ++ c.remove-seat.result.calls ∷ []) (empty_list c.args.self.lists.items c.args.self.room.0)) ∙ ap (λ ps. lists_of ps) (sym cut) in
    lists ∙ lists_are g.C.Core.setup g.C.Core.is_legal c.args.self c.args.passes.items good

pub returns-clause-once : goal.returns-clause-once
returns-clause-once g c place pos high =
    let all = passes_count c.args.passes.items (passes_of c.args.self) c.requires.order in
    let cut = removed c.args.passes.items c.remove-seat.new.self.items c.remove-seat.result (omega (arith, all, c.args.self.some)) c.remove-seat.ensures.value c.remove-seat.ensures.items in
    let slot = closed g.C.Core.history g.C.Core.setup g.C.Core.is_legal c.args.self c.args.passes.items c.remove-seat.new.self.items c.remove-seat.result c.gather.new.seat.id c.gather.new.seat.me _ _ c.take-slot.result c.requires.passes all cut c.gather.ensures.idle.1 c.gather.ensures.passes
    c.close_with-closed.ensures.values.2 c.take-slot.ensures.value in
    let out = comes_out g.C.Core.history g.C.Core.setup g.C.Core.is_legal c.args.self c.args.passes.items c.take-slot.result c.unwrap.result slot c.unwrap.ensures in
    let good = all_by (IsPassOf g.C.Core.setup g.C.Core.is_legal c.args.self) c.args.passes.items c.requires.passes in
    let lists : c.from_lists.result ≡ lists_of c.args.passes.items = c.from_lists.ensures ∙ c.gather.ensures.lists ∙ ap (λ l. l ++ lists_of c.remove-seat.new.self.items) (c.push_reserved.ensures.items ∙ ap (λ l. l ++ c.remove-seat.result.calls ∷ []) (empty_list c.args.self.lists.items c.args.self.room.0)) ∙ ap (λ ps. lists_of ps) (sym cut) in
    ap (λ l. total (times place) l) lists ∙ once g.C.Core.setup g.C.Core.is_legal c.args.self place (length (g.C.Core.history c.unwrap.result)) c.args.passes.items good out.places pos high

pub returns-clause-setup : goal.returns-clause-setup
returns-clause-setup g c =
    let all = passes_count c.args.passes.items (passes_of c.args.self) c.requires.order in
    let cut = removed c.args.passes.items c.remove-seat.new.self.items c.remove-seat.result (omega (arith, all, c.args.self.some)) c.remove-seat.ensures.value c.remove-seat.ensures.items in
    let slot = closed g.C.Core.history g.C.Core.setup g.C.Core.is_legal c.args.self c.args.passes.items c.remove-seat.new.self.items c.remove-seat.result c.gather.new.seat.id c.gather.new.seat.me _ _ c.take-slot.result c.requires.passes all cut c.gather.ensures.idle.1 c.gather.ensures.passes
    c.close_with-closed.ensures.values.2 c.take-slot.ensures.value in
    let out = comes_out g.C.Core.history g.C.Core.setup g.C.Core.is_legal c.args.self c.args.passes.items c.take-slot.result c.unwrap.result slot c.unwrap.ensures in
    out.same

pub returns-clause-legal : goal.returns-clause-legal
returns-clause-legal g c =
    let all = passes_count c.args.passes.items (passes_of c.args.self) c.requires.order in
    let cut = removed c.args.passes.items c.remove-seat.new.self.items c.remove-seat.result (omega (arith, all, c.args.self.some)) c.remove-seat.ensures.value c.remove-seat.ensures.items in
    let slot = closed g.C.Core.history g.C.Core.setup g.C.Core.is_legal c.args.self c.args.passes.items c.remove-seat.new.self.items c.remove-seat.result c.gather.new.seat.id c.gather.new.seat.me _ _ c.take-slot.result c.requires.passes all cut c.gather.ensures.idle.1 c.gather.ensures.passes
    c.close_with-closed.ensures.values.2 c.take-slot.ensures.value in
    let out = comes_out g.C.Core.history g.C.Core.setup g.C.Core.is_legal c.args.self c.args.passes.items c.take-slot.result c.unwrap.result slot c.unwrap.ensures in
    out.legal
