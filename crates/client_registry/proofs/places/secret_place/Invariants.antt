use Rattle.std.proofs.Common.{◌≡◌, drop}
use Rattle.std.specs.List.{position_from}
use Rattle.client_registry.specs.declared.records.Client.{Client}
use Rattle.client_registry.specs.Secrets.{has_secret}
use Rattle.client_registry.specs.Rules.{secret_place}
use Rattle.client_registry.proofs.places.secret_place.Given as goal

abbrev pub invariant-loop-place : goal.invariant-loop-place
invariant-loop-place l = position_from (λ (x : Client). has_secret l.secret x) l.place (drop l.place l.clients) ≡ secret_place l.secret l.clients
