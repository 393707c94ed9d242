use Rattle.std.proofs.Common.{◌∙◌, ◌≡◌, suc, ◌-◌, [], map, length, subst, sym, ap, arith}
use Rattle.std.proofs.lemmas.List.Elements.{All-push}
use Rattle.std.specs.List.{All}
use Rattle.turn_store.specs.declared.store.Pass.{Pass}
use Rattle.turn_store.specs.Places.{numbers_from}
use Rattle.turn_store.specs.Views.{idle, new_passes}
use Rattle.turn_store.specs.Passes.{number_of}
use Rattle.turn_store.specs.Seats.{IsDealt}
use Rattle.turn_store.proofs.Dealing.{still_has, was_dealt, is_dealt, dealt_number, numbers_grew, one_longer}
use Rattle.turn_store.proofs.opening.deal.Goals as goal

pub loop-left-preserved : goal.loop-left-preserved
loop-left-preserved g c =
    let i = c.loop-left.invariant in
    let start = c.args.shared.now.key.core.value in
    let dealt = c.loop-left.dealt.items in
    let n = c.loop-left.left in
    let size : n ≡ suc (n - 1) = omega (arith, c.loop-left-test.true) in
    let seat = still_has start c.loop-left.seat.me c.split_pass-one.new.seat.me (length dealt) n (n - 1) size i.seat c.split_pass-one.ensures.passes.0 in
    let one = was_dealt start c.loop-left.seat.me c.split_pass-one.result.me (length dealt) n (n - 1) size i.seat c.split_pass-one.ensures.passes.1 in
    let pass : Pass g.row.C.Denot g.row.C-Ask.Denot g.row.C-Reply.Denot = record { seat = c.split_pass-one.result; calls = c.new.result } in
    let is = is_dealt c.args.shared.now.table_id start pass (length dealt) (c.split_pass-one.ensures.place.1 ∙ i.place) one c.new.ensures in
    let all = All-push (IsDealt c.args.shared.now.table_id start) dealt pass i.dealt is in
    let numbers = numbers_grew dealt pass i.numbers (dealt_number start pass (length dealt) one) in
    let pushed = c.push_reserved.ensures.items in
    record {
      place = c.split_pass-one.ensures.place.0 ∙ i.place;
      seat = seat ∙ ap (λ k. (idle (new_passes start k (n - 1)), [])) (sym (ap length pushed ∙ one_longer dealt pass));
      count = let e = i.count in let p = c.push_reserved.ensures.len in omega (arith, e, p, size);
      room = let r = i.room in let p = c.push_reserved.ensures.capacity in omega (arith, r, p);
      numbers = subst (λ l. map number_of l ≡ numbers_from 0 (length l)) (sym pushed) numbers;
      dealt = subst (λ l. All (IsDealt c.args.shared.now.table_id start) l) (sym pushed) all;
    }
