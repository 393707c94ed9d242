use Rattle.std.proofs.Common.{◌∙◌, ◌++◌, ◌∷◌, [], Err, ap, sym}
use Rattle.std.proofs.lemmas.List.{append_assoc}
use Rattle.std.proofs.lemmas.Result.{err_from_is_err_and}
use Rattle.sso_base.specs.declared.step.CoreNo.TheVariants as no
use Rattle.sso_base.proofs.Asking.{both_longer, told_on, fills_at}
use Rattle.sso_base.proofs.Refusals.{returned_error}
use Rattle.sso_base.proofs.in_turn.replies_in_turn.Goals as goal

pub loop-asked-preserved : goal.loop-asked-preserved
loop-asked-preserved g c =
    let i = c.loop-asked.invariant in
    let a = c.in-Some.asked in
    let r = c.in_ok-reply.reply in
    let pushed = c.push_reserved.ensures.items ∙ ap (λ l. l ++ r ∷ []) c.reserve.ensures.items in
    record {
      left = i.left ∙ ap (λ l. c.loop-asked.yielded ++ l) c.in-Some.ensures.steps.0 ∙ sym (append_assoc c.loop-asked.yielded (a ∷ []) c.next.new.self.rest.items);
      told = told_on c.loop-asked.yielded c.loop-asked.replies.items c.push_reserved.new.self.items a r (g.C.Core.history c.loop-asked.core) (g.C.Core.history c.step.new.self) i.told i.each pushed c.in_ok-reply.ensures.ok;
      each = both_longer c.loop-asked.replies.items c.push_reserved.new.self.items c.loop-asked.yielded r a pushed i.each;
      setup = c.step.ensures.setup ∙ i.setup;
      legal = c.step.ensures.legal;
    }

pub returns-in_err-reply-clause-full : goal.returns-in_err-reply-clause-full
returns-in_err-reply-clause-full g c = λ w is.
    let i = c.loop-asked.invariant in
    let returned = err_from_is_err_and c.from_residual.result c.from_residual.ensures.1 in
    fills_at g.C.Core.weighs (g.C.Core.most (g.C.Core.setup c.args.core)) (g.C.Core.most (g.C.Core.setup c.loop-asked.core)) w c.args.asks.items c.loop-asked.yielded c.in-Some.asked
    c.next.new.self.rest.items c.loop-asked.asked-iterator.rest.items c.loop-asked.replies.items (g.C.Core.history c.loop-asked.core)
    i.left c.in-Some.ensures.steps.0 i.told i.each (ap g.C.Core.most i.setup) (c.in_err-reply.ensures.full w (ap Err (returned_error c.from_residual.result returned.0 c.in_err-reply.field-0.0 (no.JournalFull w) returned.1 returned.2 is)))
