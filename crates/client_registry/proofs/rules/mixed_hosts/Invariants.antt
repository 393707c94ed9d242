use Rattle.std.proofs.Common.{◌≡◌, ◌++◌, drop}
use Rattle.configuration_rows.specs.Refusals.{each_from, each}
use Rattle.client_registry.specs.Rules as spec
use Rattle.client_registry.proofs.rules.mixed_hosts.Given as goal

abbrev pub invariant-loop-client : goal.invariant-loop-client
invariant-loop-client l = l.refusals ++ each_from spec.mixed_hosts l.client-index (drop l.client-index l.clients) ≡ l.fn.refusals ++ each spec.mixed_hosts l.clients
