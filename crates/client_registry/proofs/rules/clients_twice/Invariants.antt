use Rattle.std.proofs.Common.{◌≡◌, ◌++◌, drop}
use Rattle.configuration_rows.specs.Refusals.{each_from, each}
use Rattle.client_registry.specs.Rules as spec
use Rattle.client_registry.proofs.rules.clients_twice.Given as goal

abbrev pub invariant-loop-place : goal.invariant-loop-place
invariant-loop-place l = l.refusals ++ each_from (spec.client_twice l.issuer l.clients) l.place (drop l.place l.clients) ≡ l.fn.refusals ++ each (spec.client_twice l.issuer l.clients) l.clients
