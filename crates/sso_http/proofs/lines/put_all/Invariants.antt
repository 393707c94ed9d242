use Rattle.std.proofs.Common.{◌≡◌, ◌++◌, map, drop}
use Rattle.std.specs.Prelude.{string_bytes}
use Rattle.std.specs.List.{concat}
use Rattle.sso_http.proofs.lines.put_all.Given as goal

abbrev pub invariant-loop-piece : goal.invariant-loop-piece
invariant-loop-piece l = string_bytes l.out ++ concat (map (λ p. p.now) (drop l.piece-index l.pieces)) ≡ string_bytes l.fn.out ++ concat (map (λ p. p.now) l.pieces)
