use Rattle.std.proofs.Common.{◌≡◌, ◌++◌, map, drop}
use Rattle.sso_http.specs.Cookies.{named_values}
use Rattle.sso_http.proofs.cookies.named_values.Given as goal

abbrev pub invariant-loop-piece : goal.invariant-loop-piece
invariant-loop-piece l = map (λ w. w.now) l.found.items ++ named_values l.name (map (λ w. w.now) (drop l.piece-index l.pieces)) ≡ named_values l.name (map (λ w. w.now) l.pieces)
