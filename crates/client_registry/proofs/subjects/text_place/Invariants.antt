use Rattle.std.proofs.Common.{◌≡◌, drop}
use Rattle.std.specs.List.{position_from}
use Rattle.std.specs.Str.{bytes_eq}
use Rattle.client_registry.specs.Rules as spec
use Rattle.client_registry.proofs.subjects.text_place.Given as goal

abbrev pub invariant-loop-place : goal.invariant-loop-place
invariant-loop-place l = position_from (λ u. bytes_eq u l.text) l.place (drop l.place l.texts) ≡ spec.text_place l.text l.texts
