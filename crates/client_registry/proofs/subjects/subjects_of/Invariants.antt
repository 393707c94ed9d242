use Rattle.std.proofs.Common.{◌≡◌, ◌++◌, map, take, drop}
use Rattle.configuration_rows.specs.Refusals.{each_from, each}
use Rattle.client_registry.specs.Rules as spec
use Rattle.client_registry.proofs.subjects.subjects_of.Given as goal

abbrev pub invariant-loop-client : goal.invariant-loop-client
invariant-loop-client l = record {
  subjects : l.subjects.items ≡ map (spec.subjects_at l.salt l.users) (take l.client-index l.clients);
  refusals : l.refusals ++ each_from (λ n k. spec.clashes k l.users (spec.subjects_at l.salt l.users k)) l.client-index (drop l.client-index l.clients) ≡ l.fn.refusals ++ each (λ n k. spec.clashes k l.users (spec.subjects_at l.salt l.users k)) l.clients;
}
