use Rattle.std.proofs.Common.{◌≡◌, ◌++◌, drop}
use Rattle.client_registry.specs.Rules as spec
use Rattle.client_registry.proofs.rules.redirects_twice.Given as goal

abbrev pub invariant-loop-number : goal.invariant-loop-number
invariant-loop-number l = l.refusals ++ spec.redirects_twice l.clients l.place (drop l.number l.uris) ≡ l.fn.refusals ++ spec.redirects_twice l.clients l.place l.uris
