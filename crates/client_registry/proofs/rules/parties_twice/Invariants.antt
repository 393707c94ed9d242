use Rattle.std.proofs.Common.{◌≡◌, ◌++◌, drop}
use Rattle.configuration_rows.specs.Refusals.{each_from, each}
use Rattle.client_registry.specs.Rules as spec
use Rattle.client_registry.proofs.rules.parties_twice.Given as goal

abbrev pub invariant-loop-place : goal.invariant-loop-place
invariant-loop-place l = l.refusals ++ each_from (spec.party_twice l.clients l.parties) l.place (drop l.place l.parties) ≡ l.fn.refusals ++ each (spec.party_twice l.clients l.parties) l.parties
