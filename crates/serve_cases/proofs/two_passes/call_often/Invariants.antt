use Rattle.std.proofs.Common.{◌≡◌}
use Rattle.turn_store.specs.Passes.{IsPassOf, number_of}
use Rattle.serve_cases.specs.Tally.{lasts_of, IsLight}
use Rattle.serve_cases.proofs.two_passes.call_often.Given as goal

abbrev pub invariant-loop : goal.invariant-loop
invariant-loop g l = record {
  pass : IsPassOf lasts_of IsLight l.turn l.pass;
  number : number_of l.pass ≡ number_of l.initial.pass;
}
