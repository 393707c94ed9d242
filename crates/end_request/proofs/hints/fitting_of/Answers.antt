use Rattle.std.proofs.Common.{◌∙◌, sym, ap, List, ℕ}
use Rattle.end_request.specs.Hints.{fits}
use Rattle.end_request.proofs.Loops.{fit_step, fit_stop}
use Rattle.end_request.proofs.hints.fitting_of.Goals as goal

pub returns-then-branch : goal.returns-then-branch
returns-then-branch c =
    let I = λ (i : List ℕ). fits i c.args.named c.args.hint.now c.loop-n.n c.client.result.now in
    let issuer = c.as_str-issuer.ensures.value ∙ ap (λ p. p.issuer) c.provider.ensures.provider in
    fit_stop c.args.registry.now.provider.issuer c.args.named c.args.hint.now c.args.registry.now.clients c.loop-n.n c.client.result.now c.client.ensures _
    (sym (c.in_ok-fits.ensures ∙ ap I issuer) ∙ c.if-branch.true) c.loop-n.invariant

pub loop-n-preserved : goal.loop-n-preserved
loop-n-preserved c =
    let I = λ (i : List ℕ). fits i c.args.named c.args.hint.now c.loop-n.n c.client.result.now in
    let issuer = c.as_str-issuer.ensures.value ∙ ap (λ p. p.issuer) c.provider.ensures.provider in
    fit_step c.args.registry.now.provider.issuer c.args.named c.args.hint.now c.args.registry.now.clients c.loop-n.n c.client.result.now c.client.ensures _
    (sym (c.in_ok-fits.ensures ∙ ap I issuer) ∙ c.if-branch.false) c.loop-n.invariant
