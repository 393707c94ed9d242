use Rattle.std.proofs.Common.{◌≤◌, ◌-◌, ◌∙◌, ap, sym, subst, length, ℕ, List}
use Rattle.sso_base.specs.Weights.{texts_bytes}
use Rattle.sso_base.proofs.TextBuffers.{few_texts, without_ends}
use Rattle.sso_base.proofs.texts.Texts.byte_count.Goals as goal

pub overflow_sub-result : goal.overflow_sub-result
overflow_sub-result c =
    let F : List ℕ → Type 0 = λ xs. c.self.inside.count ≤ length xs in
    subst F (sym c.as_slice.ensures.value) (few_texts c.self.inside.bytes.items c.self.inside.count c.self.invariant.0 c.self.invariant.1)

pub returns : goal.returns
returns c =
    ap (λ (xs : List ℕ). length xs - c.self.inside.count) c.as_slice.ensures.value
    ∙ without_ends c.self.inside.bytes.items c.self.inside.count c.self.invariant.0 c.self.invariant.1
    ∙ ap texts_bytes c.self.view_is
