use Rattle.std.proofs.Common.{◌≡◌, ◌||◌, List, ◌∙◌, subst, map, string_bytes}
use Rattle.std.specs.Str.{bytes_eq}
use Rattle.sso_base.specs.Texts.{has_text}
use Rattle.sso_base.specs.Words.{Text}
use Rattle.world_index.proofs.TextSets.{key_added}
use Rattle.world_index.proofs.text_set.TextSet.add.Goals as goal

pub returns-clause-ok : goal.returns-clause-ok
returns-clause-ok c =
    let R : List Text → Type 0 = λ before. (t : Text) → has_text t (map string_bytes c.insert.new.self.keys) ≡ (bytes_eq c.args.text.now t || has_text t before) in
    let B : Text → Type 0 = λ bs. (t : Text) → has_text t (map string_bytes c.insert.new.self.keys) ≡ (bytes_eq bs t || has_text t (map string_bytes c.self.inside.texts.keys)) in
    subst R c.self.view_is
    (subst B (c.in_ok-text.ensures.ok ∙ c.as_str.ensures.value) (key_added (string_bytes c.in_ok-text.text) c.self.inside.texts c.insert.new.self c.in_ok-insert.ensures.updates))
