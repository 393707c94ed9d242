use Rattle.std.proofs.Common.{◌≡◌, drop}
use Rattle.std.specs.List.{position_from}
use Rattle.std.specs.Str.{bytes_eq}
use Rattle.client_registry.specs.declared.records.Party.{Party}
use Rattle.client_registry.specs.Rules.{party_place}
use Rattle.client_registry.proofs.places.party_place.Given as goal

abbrev pub invariant-loop-place : goal.invariant-loop-place
invariant-loop-place l = position_from (λ (x : Party). bytes_eq x.name l.name) l.place (drop l.place l.parties) ≡ party_place l.name l.parties
