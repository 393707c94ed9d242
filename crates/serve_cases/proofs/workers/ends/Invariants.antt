use Rattle.turn_store.specs.Passes.{IsPassOf}
use Rattle.serve_cases.proofs.workers.ends.Given as goal

abbrev pub invariant-loop : goal.invariant-loop
invariant-loop g l = IsPassOf g.X.Core.Core.setup g.X.Core.Core.is_legal l.store l.pass
