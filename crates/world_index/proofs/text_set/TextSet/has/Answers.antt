use Rattle.std.proofs.Common.{◌∙◌, ap, map, string_bytes}
use Rattle.sso_base.specs.Texts.{has_text}
use Rattle.world_index.proofs.TextSets.{keys_have}
use Rattle.world_index.proofs.text_set.TextSet.has.Goals as goal

pub returns : goal.returns
returns c =
    c.contains.ensures
    ∙ keys_have c.as_str.result.now c.self.inside.texts.keys
    ∙ ap (λ t. has_text t (map string_bytes c.self.inside.texts.keys)) c.as_str.ensures.value
    ∙ ap (has_text c.args.text.now) c.self.view_is
