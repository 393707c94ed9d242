use Rattle.std.proofs.Common.{◌≡◌, map, drop}
use Rattle.oidc_words.specs.Words.{is_distinct}
use Rattle.oidc_words.proofs.words.are_distinct.Given as goal

abbrev pub invariant-loop-place : goal.invariant-loop-place
invariant-loop-place l = is_distinct (map (λ w. w.now) (drop l.place l.words)) ≡ is_distinct (map (λ w. w.now) l.words)
