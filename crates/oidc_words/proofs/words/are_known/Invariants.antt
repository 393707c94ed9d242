use Rattle.std.proofs.Common.{◌≡◌, map, drop}
use Rattle.std.specs.List.{list_all}
use Rattle.sso_base.specs.Texts.{has_text}
use Rattle.oidc_words.proofs.words.are_known.Given as goal

abbrev pub invariant-loop-word : goal.invariant-loop-word
invariant-loop-word l = list_all (λ w. has_text w (map (λ k. k.now) l.known)) (map (λ w. w.now) (drop l.word-index l.words)) ≡ list_all (λ w. has_text w (map (λ k. k.now) l.known)) (map (λ w. w.now) l.words)
