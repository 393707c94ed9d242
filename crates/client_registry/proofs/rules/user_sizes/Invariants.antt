use Rattle.std.proofs.Common.{◌≡◌, ◌++◌, drop}
use Rattle.configuration_rows.specs.Refusals.{each_from, each}
use Rattle.client_registry.specs.Rules as spec
use Rattle.client_registry.proofs.rules.user_sizes.Given as goal

abbrev pub invariant-loop-place : goal.invariant-loop-place
invariant-loop-place l = l.refusals ++ each_from spec.user_size l.place (drop l.place l.users) ≡ l.fn.refusals ++ each spec.user_size l.users
