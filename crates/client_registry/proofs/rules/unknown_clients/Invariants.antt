use Rattle.std.proofs.Common.{◌≡◌, ◌++◌, drop}
use Rattle.configuration_rows.specs.Refusals.{each_from, each}
use Rattle.client_registry.specs.Rules as spec
use Rattle.client_registry.proofs.rules.unknown_clients.Given as goal

abbrev pub invariant-loop-party : goal.invariant-loop-party
invariant-loop-party l = l.refusals ++ each_from (spec.unknown_client l.clients) l.party-index (drop l.party-index l.parties) ≡ l.fn.refusals ++ each (spec.unknown_client l.clients) l.parties
