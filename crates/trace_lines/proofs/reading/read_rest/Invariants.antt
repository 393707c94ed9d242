use Rattle.std.proofs.Common.{◌≡◌, ◌≤◌, ◌+◌, [], drop, length, map}
use Rattle.trace_lines.specs.Trace.{lines_read}
use Rattle.trace_lines.proofs.reading.read_rest.Given as goal

abbrev pub invariant-loop-line : goal.invariant-loop-line
invariant-loop-line l = record {
  number : l.number ≡ l.line-index + 2;
  few : length l.so_far ≤ l.line-index;
  read : lines_read l.registry l.number l.so_far (map (λ w. w.now) (drop l.line-index l.lines)) ≡ lines_read l.registry 2 [] (map (λ w. w.now) l.lines);
}
