use Rattle.std.proofs.Common.{◌≡◌, drop, map}
use Rattle.trace_lines.specs.Faults.{least_of, least}
use Rattle.trace_lines.specs.Guilt.{fields_faults}
use Rattle.trace_lines.proofs.guilt.fields_fault.Given as goal

-- what was found, and what the words to come are guilty of, give what all give
abbrev pub invariant-loop-place : goal.invariant-loop-place
invariant-loop-place l =
    least_of l.found (fields_faults l.registry l.before (drop l.place l.fields) (map (λ w. w.now) (drop l.place l.words)))
    ≡ least (fields_faults l.registry l.before l.fields (map (λ w. w.now) l.words))
