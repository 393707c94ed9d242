use Rattle.std.proofs.Common.{◌≡◌, ℕ, ◌-◌, nat_lt, List, length, Option, None, Some, IfSome, is_some, option_copied, get_or, slice_get, Bor, refl, sym, ap, ◌∙◌, subst}
use Rattle.std.specs.List.{AllByRecursion}
use Rattle.std.proofs.lemmas.Bool.{ltb-true, ltb-false}
use Rattle.std.proofs.lemmas.Option.{slice_get_past, slice_get_read}
use Rattle.running_world.specs.declared.kept.Kept.{Kept}
use Rattle.running_world.specs.Running.{kept_at}
use Rattle.running_world.specs.Transcribed.{Transcribed}
use Rattle.running_world.specs.Whole.{IsWhole}
use Rattle.running_world.proofs.Keeping.{kept_at_zero, kept_has}
use Rattle.running_world.proofs.Transcribing.{found_at}
use Rattle.running_world.proofs.transcript.Transcript.kept_at.Goals as goal

-- what `get` of a slice gives
got : (kept : List Kept) (i : ℕ) (found : Option (Bor Kept)) → is_some found ≡ nat_lt i (length kept) → IfSome found (λ k. k.now ≡ get_or kept i k.now) → option_copied found ≡ slice_get kept i
got kept i None is at = sym (slice_get_past kept i (ltb-false i (length kept) (sym is)))
got kept i (Some k) is at = sym (slice_get_read kept (length kept) i k.now refl (ltb-true i (length kept) (sym is)) at)

pub returns-then-place-eq0-clause-kept : goal.returns-then-place-eq0-clause-kept
returns-then-place-eq0-clause-kept c =
    let kept : List Kept = c.args.self.now.kept in
    sym (ap (λ n. kept_at kept n) c.if-place-eq0.true ∙ kept_at_zero kept)

pub returns-then-place-eq0-clause-whole : goal.returns-then-place-eq0-clause-whole
returns-then-place-eq0-clause-whole c =
    let kept : List Kept = c.args.self.now.kept in
    let none : kept_at kept c.args.place ≡ None = ap (λ n. kept_at kept n) c.if-place-eq0.true ∙ kept_at_zero kept in
    let W : Option Kept → Type 0 = λ o. IfSome o IsWhole in
    subst W (sym none) tt

pub returns-clause-kept : goal.returns-clause-kept
returns-clause-kept c =
    let items : List Kept = c.self.inside.kept.items in
    got c.deref.result.now (c.args.place - 1) c.get.result c.get.ensures.lookup.0 c.get.ensures.lookup.1
    ∙ ap (λ (ks : List Kept). slice_get ks (c.args.place - 1)) c.deref.ensures.value
    ∙ found_at items c.args.place c.if-place-eq0.false
    ∙ ap (λ (t : Transcribed). kept_at t.kept c.args.place) c.self.view_is

pub returns-clause-whole : goal.returns-clause-whole
returns-clause-whole c =
    let W : Transcribed → Type 0 = λ t. AllByRecursion IsWhole t.kept in
    kept_has IsWhole c.args.self.now.kept c.args.place (subst W c.self.view_is c.self.invariant.whole)
