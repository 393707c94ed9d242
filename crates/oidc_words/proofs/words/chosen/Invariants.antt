use Rattle.std.proofs.Common.{◌≡◌, ◌++◌, map, drop}
use Rattle.oidc_words.specs.Words as spec
use Rattle.oidc_words.proofs.words.chosen.Given as goal

-- the words so far, and those to come
abbrev pub invariant-loop-word : goal.invariant-loop-word
invariant-loop-word l = map (λ w. w.now) l.kept.items ++ spec.chosen (map spec.choice_of (drop l.word-index l.words)) ≡ spec.chosen (map spec.choice_of l.words)
