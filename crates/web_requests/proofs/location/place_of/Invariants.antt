use Rattle.std.proofs.Common.{◌≡◌, drop}
use Rattle.std.specs.List.{position_from}
use Rattle.std.specs.Str.{bytes_eq}
use Rattle.web_requests.proofs.location.place_of.Given as goal

-- the text is among those to come
abbrev pub invariant-loop-place : goal.invariant-loop-place
invariant-loop-place l = position_from (λ t. bytes_eq t l.text) l.place (drop l.place l.texts) ≡ position_from (λ t. bytes_eq t l.text) 0 l.texts
