use Rattle.std.proofs.Common.{◌≡◌, map, drop}
use Rattle.oidc_words.specs.Words.{has_other}
use Rattle.oidc_words.proofs.words.has_other.Given as goal

abbrev pub invariant-loop-other : goal.invariant-loop-other
invariant-loop-other l = has_other l.text (map (λ w. w.now) (drop l.other-index l.texts)) ≡ has_other l.text (map (λ w. w.now) l.texts)
