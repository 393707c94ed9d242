use Rattle.std.proofs.Common.{◌≡◌, ◌++◌, ◌≤◌, ◌*◌}
use Rattle.std.specs.Prelude.{string_bytes}
use Rattle.storm_texts.specs.Trace.{header, state_before, places_before, lines_before}
use Rattle.storm_texts.proofs.trace.storm_trace.Given as goal

abbrev pub invariant-loop-k : goal.invariant-loop-k
invariant-loop-k l = record {
  state : l.state ≡ state_before l.number l.k;
  places : l.places ≡ places_before l.k;
  few : l.places ≤ 10 * l.k;
  text : string_bytes l.out ≡ header l.number ++ lines_before l.number l.k;
}
