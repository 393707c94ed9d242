use Rattle.std.proofs.Common.{◌≡◌, ◌++◌, map, drop, filter}
use Rattle.oidc_words.specs.Words.{is_filled}
use Rattle.oidc_words.proofs.words.parameter_words.Given as goal

abbrev pub invariant-loop-piece : goal.invariant-loop-piece
invariant-loop-piece l = map (λ w. w.now) l.words.items ++ filter is_filled (map (λ w. w.now) (drop l.piece-index l.piece-items)) ≡ filter is_filled (map (λ w. w.now) l.piece-items)
