use Rattle.std.proofs.Common.{◌∙◌, List, refl, subst}
use Rattle.sso_base.specs.declared.history.Pair.{Pair}
use Rattle.sso_base.proofs.Histories.{few_pairs}
use Rattle.turn_store.specs.Views.{with_entry, with_front}
use Rattle.turn_store.specs.Passes.{pair_of, start_of, first_front}
use Rattle.turn_store.specs.declared.view.PassView.{PassView}
use Rattle.turn_store.proofs.Passing.{pass_at, front_fits, entry_at, me_entered, me_left, me_refused, pass_after, told_more, told_same, stores, stores_entry, goes_on, adds_call}
use Rattle.turn_store.proofs.store.Turn.call.Goals as goal

pub count_entry-requires-clause-pass : goal.count_entry-requires-clause-pass
count_entry-requires-clause-pass g c κs within =
    pass_at g.C.Core.history g.C.Core.setup g.C.Core.is_legal c.take_turn-core.result c.step.new.self c.args.pass.now.seat.me c.take_turn-core.new.seat.me c.requires.view.0 c.requires.view.1 c.take_turn-core.ensures.turn c.take_turn-core.ensures.fits
    c.in-Ok.ensures.setup

pub leave_turn-requires-clause-pass : goal.leave_turn-requires-clause-pass
leave_turn-requires-clause-pass g c κs within =
    pass_at g.C.Core.history g.C.Core.setup g.C.Core.is_legal c.take_turn-core.result c.step.new.self c.args.pass.now.seat.me c.take_turn-core.new.seat.me c.requires.view.0 c.requires.view.1 c.take_turn-core.ensures.turn c.take_turn-core.ensures.fits
    c.step.ensures.setup

pub leave_full-requires-clause-pass : goal.leave_full-requires-clause-pass
leave_full-requires-clause-pass g c κs within =
    pass_at g.C.Core.history g.C.Core.setup g.C.Core.is_legal c.take_turn-core.result c.step.new.self c.args.pass.now.seat.me c.take_turn-core.new.seat.me c.requires.view.0 c.requires.view.1 c.take_turn-core.ensures.turn c.take_turn-core.ensures.fits
    c.step.ensures.setup

pub count_entry-requires-clause-entry : goal.count_entry-requires-clause-entry
count_entry-requires-clause-entry g c κs within = (
  pair_of (g.C.Core.history c.take_turn-core.result) c.args.at c.args.fresh c.args.ask c.in-Ok.reply,
  entry_at g.C.Core.history g.C.Core.setup g.C.Core.is_legal c.take_turn-core.result c.step.new.self c.args.pass.now.seat.me c.take_turn-core.new.seat.me _ c.take_turn-core.ensures.turn c.in-Ok.ensures.ok,
)

pub count_entry-requires-clause-small : goal.count_entry-requires-clause-small
count_entry-requires-clause-small g c κs within =
    let laws = g.met.C.Core g.world.𝓛 g.world.𝓜 g.world.𝓡 ((λ s x. x), (λ x. x), (λ x. x), λ x. x) in
    let now = c.step.new.self in
    few_pairs g.C.Core.weighs laws.least_weight (g.C.Core.most (g.C.Core.setup now)) (laws.most_is_short (g.C.Core.setup now)) (g.C.Core.history now) (laws.legal_is_light (g.C.Core.setup now) (g.C.Core.history now) c.in-Ok.ensures.legal)

pub returns-in-Ok-clause-pass : goal.returns-in-Ok-clause-pass
returns-in-Ok-clause-pass g c =
    let p = c.requires.view.0 in
    let one = c.requires.view.1 in
    let taken = c.take_turn-core.ensures.turn in
    let now = c.step.new.self in
    let old = c.args.pass.now.seat.me in
    let mid = c.take_turn-core.new.seat.me in
    let pair : Pair g.row.C-Ask.Denot g.row.C-Reply.Denot = pair_of (g.C.Core.history c.take_turn-core.result) c.args.at c.args.fresh c.args.ask c.in-Ok.reply in
    let longer = entry_at g.C.Core.history g.C.Core.setup g.C.Core.is_legal c.take_turn-core.result now old mid pair taken c.in-Ok.ensures.ok in
    let me = me_entered g.C.Core.history g.C.Core.setup g.C.Core.is_legal c.take_turn-core.result now old mid c.count_entry.new.seat.me p pair one taken (c.count_entry.ensures.free pair longer) in
    let fit = front_fits g.C.Core.history g.C.Core.setup g.C.Core.is_legal c.take_turn-core.result old p one c.take_turn-core.ensures.fits in
    let setup = c.in-Ok.ensures.setup ∙ fit.same ∙ c.requires.view.2 in
    pass_after g.C.Core.history g.C.Core.setup g.C.Core.is_legal c.args.self.now c.args.pass.now (record { seat = c.count_entry.new.seat; calls = c.push.new.self }) (with_entry (g.C.Core.history now) pair p) c.requires (c.count_entry.ensures.place ∙ c.take_turn-core.ensures.place) me c.requires.view.2
    (subst (λ (s : g.C.Core.Setup). g.C.Core.is_legal s (g.C.Core.history now)) setup c.in-Ok.ensures.legal)
    (told_more g.C.Core.history g.C.Core.setup g.C.Core.is_legal c.args.pass.now c.args.self.now p (g.C.Core.history now) pair c.count-place.result c.push.new.self c.requires one c.count-place.ensures.count c.push.ensures)

pub returns-in-Err-NoMemory-clause-pass : goal.returns-in-Err-NoMemory-clause-pass
returns-in-Err-NoMemory-clause-pass g c =
    let p = c.requires.view.0 in
    let one = c.requires.view.1 in
    let me = me_left g.C.Core.history g.C.Core.setup g.C.Core.is_legal c.take_turn-core.result c.args.pass.now.seat.me c.take_turn-core.new.seat.me c.leave_turn.new.seat.me p one c.take_turn-core.ensures.turn c.leave_turn.ensures.free in
    pass_after g.C.Core.history g.C.Core.setup g.C.Core.is_legal c.args.self.now c.args.pass.now (record { seat = c.leave_turn.new.seat; calls = c.args.pass.now.calls }) p c.requires (c.leave_turn.ensures.place ∙ c.take_turn-core.ensures.place) me c.requires.view.2
    (subst (λ (ps : List (PassView g.row.C.Denot (Pair g.row.C-Ask.Denot g.row.C-Reply.Denot))). g.C.Core.is_legal (g.C.Core.setup (start_of c.args.self.now)) (first_front ps)) one c.requires.legal)
    (told_same g.C.Core.history g.C.Core.setup g.C.Core.is_legal c.args.pass.now c.args.self.now p c.args.pass.now.calls c.requires one refl)

pub returns-in-Err-JournalFull-clause-pass : goal.returns-in-Err-JournalFull-clause-pass
returns-in-Err-JournalFull-clause-pass g c =
    let p = c.requires.view.0 in
    let one = c.requires.view.1 in
    let now = c.step.new.self in
    let old = c.args.pass.now.seat.me in
    let fit = front_fits g.C.Core.history g.C.Core.setup g.C.Core.is_legal c.take_turn-core.result old p one c.take_turn-core.ensures.fits in
    let setup = c.step.ensures.setup ∙ fit.same ∙ c.requires.view.2 in
    let me = me_refused g.C.Core.history g.C.Core.setup g.C.Core.is_legal c.take_turn-core.result now old c.take_turn-core.new.seat.me c.leave_full.new.seat.me p one c.take_turn-core.ensures.turn c.leave_full.ensures.free in
    pass_after g.C.Core.history g.C.Core.setup g.C.Core.is_legal c.args.self.now c.args.pass.now (record { seat = c.leave_full.new.seat; calls = c.args.pass.now.calls }) (with_front (g.C.Core.history now) p) c.requires (c.leave_full.ensures.place ∙ c.take_turn-core.ensures.place) me c.requires.view.2
    (subst (λ (s : g.C.Core.Setup). g.C.Core.is_legal s (g.C.Core.history now)) setup c.step.ensures.legal)
    (told_same g.C.Core.history g.C.Core.setup g.C.Core.is_legal c.args.pass.now c.args.self.now p c.args.pass.now.calls c.requires one refl)

pub returns-in-Ok-clause-entry : goal.returns-in-Ok-clause-entry
returns-in-Ok-clause-entry g c =
    let p = c.requires.view.0 in
    let one = c.requires.view.1 in
    let core = c.take_turn-core.result in
    let now = c.step.new.self in
    let old = c.args.pass.now.seat.me in
    let new = c.count_entry.new.seat.me in
    let is = stores g.C.Core.history g.C.Core.setup g.C.Core.is_legal core now old new p c.args.at c.args.fresh c.args.ask c.in-Ok.reply c.take_turn-core.new.seat.me one c.take_turn-core.ensures.turn c.in-Ok.ensures.ok c.count_entry.ensures.free in
    stores_entry g.C.Core.history g.C.Core.setup g.C.Core.is_legal core now old new p c.args.at c.args.fresh c.args.ask c.in-Ok.reply is

pub returns-in-Ok-clause-front : goal.returns-in-Ok-clause-front
returns-in-Ok-clause-front g c =
    let p = c.requires.view.0 in
    let one = c.requires.view.1 in
    let core = c.take_turn-core.result in
    let now = c.step.new.self in
    let old = c.args.pass.now.seat.me in
    let new = c.count_entry.new.seat.me in
    let is = stores g.C.Core.history g.C.Core.setup g.C.Core.is_legal core now old new p c.args.at c.args.fresh c.args.ask c.in-Ok.reply c.take_turn-core.new.seat.me one c.take_turn-core.ensures.turn c.in-Ok.ensures.ok c.count_entry.ensures.free in
    let fit = front_fits g.C.Core.history g.C.Core.setup g.C.Core.is_legal core old p one c.take_turn-core.ensures.fits in
    goes_on g.C.Core.history g.C.Core.setup g.C.Core.is_legal core now old new p c.args.at c.args.fresh c.args.ask c.in-Ok.reply is one fit.front

pub returns-in-Ok-clause-calls : goal.returns-in-Ok-clause-calls
returns-in-Ok-clause-calls g c =
    let p = c.requires.view.0 in
    let one = c.requires.view.1 in
    let core = c.take_turn-core.result in
    let now = c.step.new.self in
    let old = c.args.pass.now.seat.me in
    let new = c.count_entry.new.seat.me in
    let is = stores g.C.Core.history g.C.Core.setup g.C.Core.is_legal core now old new p c.args.at c.args.fresh c.args.ask c.in-Ok.reply c.take_turn-core.new.seat.me one c.take_turn-core.ensures.turn c.in-Ok.ensures.ok c.count_entry.ensures.free in
    adds_call g.C.Core.history g.C.Core.setup g.C.Core.is_legal core now old new p c.args.at c.args.fresh c.args.ask c.in-Ok.reply c.count-place.result is one c.count-place.ensures.count
