use Rattle.std.proofs.Common.{◌++◌, ◌∷◌, [], List, ℕ, ap, ◌∙◌, arith}
use Rattle.sso_base.proofs.TextBuffers.{IsPushed, pushed, one_counted, count_fits}
use Rattle.sso_base.proofs.texts.Texts.push.Goals as goal

pub overflow_add-self : goal.overflow_add-self
overflow_add-self c =
    let F : List ℕ → List ℕ = λ t. c.self.inside.bytes.items ++ (t ++ 255 ∷ []) in
    let more : IsPushed c.self.inside.bytes.items c.push_text.new.bytes.items c.args.text = pushed c.self.inside.bytes.items c.push_text.new.bytes.items c.args.text c.self.invariant.0 c.as_str.ensures.utf8 (c.in_ok-push_text.ensures.ok ∙ ap F c.as_str.ensures.value) in
    let fits = count_fits c.self.inside.bytes.items c.push_text.new.bytes.items c.args.text c.self.inside.count more c.self.invariant.1 c.push_text.ensures.short in
    omega (arith, fits)

pub invariant_of-self-2 : goal.invariant_of-self-2
invariant_of-self-2 c =
    let F : List ℕ → List ℕ = λ t. c.self.inside.bytes.items ++ (t ++ 255 ∷ []) in
    let more : IsPushed c.self.inside.bytes.items c.push_text.new.bytes.items c.args.text = pushed c.self.inside.bytes.items c.push_text.new.bytes.items c.args.text c.self.invariant.0 c.as_str.ensures.utf8 (c.in_ok-push_text.ensures.ok ∙ ap F c.as_str.ensures.value) in
    (more.buffer, one_counted c.self.inside.bytes.items c.push_text.new.bytes.items c.args.text c.self.inside.count more c.self.invariant.1)

pub returns-clause-ok : goal.returns-clause-ok
returns-clause-ok c =
    let F : List ℕ → List ℕ = λ t. c.self.inside.bytes.items ++ (t ++ 255 ∷ []) in
    let more : IsPushed c.self.inside.bytes.items c.push_text.new.bytes.items c.args.text = pushed c.self.inside.bytes.items c.push_text.new.bytes.items c.args.text c.self.invariant.0 c.as_str.ensures.utf8 (c.in_ok-push_text.ensures.ok ∙ ap F c.as_str.ensures.value) in
    let P : List (List ℕ) → List (List ℕ) = λ ts. ts ++ c.args.text ∷ [] in
    more.texts ∙ ap P c.self.view_is
