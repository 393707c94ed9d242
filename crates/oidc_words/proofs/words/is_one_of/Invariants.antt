use Rattle.std.proofs.Common.{◌≡◌, map, drop}
use Rattle.sso_base.specs.Texts.{has_text}
use Rattle.oidc_words.proofs.words.is_one_of.Given as goal

abbrev pub invariant-loop-other : goal.invariant-loop-other
invariant-loop-other l = has_text l.text (map (λ t. t.now) (drop l.other-index l.texts)) ≡ has_text l.text (map (λ t. t.now) l.texts)
