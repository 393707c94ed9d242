use Rattle.std.proofs.Common.{◌≡◌, drop, map}
use Rattle.std.specs.List.{list_all}
use Rattle.oidc_words.specs.Words.{is_filled}
use Rattle.trace_lines.proofs.line_words.are_filled.Given as goal

abbrev pub invariant-loop-word : goal.invariant-loop-word
invariant-loop-word l = list_all is_filled (map (λ w. w.now) (drop l.word-index l.words)) ≡ list_all is_filled (map (λ w. w.now) l.words)
