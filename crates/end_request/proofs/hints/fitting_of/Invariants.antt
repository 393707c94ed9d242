use Rattle.std.proofs.Common.{◌≡◌, drop}
use Rattle.end_request.specs.Hints.{fitting_from}
use Rattle.end_request.proofs.hints.fitting_of.Given as goal

abbrev pub invariant-loop-n : goal.invariant-loop-n
invariant-loop-n l = fitting_from l.registry.provider.issuer l.named l.hint l.n (drop l.n l.registry.clients) ≡ fitting_from l.registry.provider.issuer l.named l.hint 0 l.registry.clients
