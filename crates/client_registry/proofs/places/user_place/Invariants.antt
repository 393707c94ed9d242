use Rattle.std.proofs.Common.{◌≡◌, drop}
use Rattle.std.specs.List.{position_from}
use Rattle.std.specs.Str.{bytes_eq}
use Rattle.client_registry.specs.declared.records.User.{User}
use Rattle.client_registry.specs.Rules.{user_place}
use Rattle.client_registry.proofs.places.user_place.Given as goal

abbrev pub invariant-loop-place : goal.invariant-loop-place
invariant-loop-place l = position_from (λ (x : User). bytes_eq x.id l.id) l.place (drop l.place l.users) ≡ user_place l.id l.users
