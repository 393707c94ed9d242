use Rattle.std.proofs.Common.{◌≡◌, drop, ◌==◌}
use Rattle.std.specs.List.{position_from}
use Rattle.client_registry.specs.declared.records.Party.{Party}
use Rattle.client_registry.specs.Rules.{use_place}
use Rattle.client_registry.proofs.places.use_place.Given as goal

abbrev pub invariant-loop-place : goal.invariant-loop-place
invariant-loop-place l = position_from (λ (x : Party). x.client == l.client) l.place (drop l.place l.parties) ≡ use_place l.client l.parties
