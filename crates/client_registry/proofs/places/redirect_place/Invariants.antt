use Rattle.std.proofs.Common.{◌≡◌, drop}
use Rattle.std.specs.List.{position_from}
use Rattle.sso_base.specs.Texts.{has_text}
use Rattle.client_registry.specs.declared.records.Client.{Client}
use Rattle.client_registry.specs.Rules.{redirect_place}
use Rattle.client_registry.proofs.places.redirect_place.Given as goal

abbrev pub invariant-loop-place : goal.invariant-loop-place
invariant-loop-place l = position_from (λ (x : Client). has_text l.uri x.redirects) l.place (drop l.place l.clients) ≡ redirect_place l.uri l.clients
