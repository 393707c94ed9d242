-- Laws about the lines of traces. Each is a clause of a function of `law.rt`, which says it in words.
use Rattle.std.specs.Prelude.{◌≡◌, ◌↔◌, ℕ, List, [], Option, is_some, true, false, Ok, Err}
use Rattle.client_registry.specs.Configuration.{Configuration}
use Rattle.trace_lines.specs.declared.line.Line.{Line}
use Rattle.trace_lines.specs.declared.no.Fault.{Fault}
use Rattle.trace_lines.specs.Faults.{IsLeast, refusal_of}
use Rattle.trace_lines.specs.Guilt.{is_skipped, line_faults}
use Rattle.trace_lines.specs.Said.{line_said}
use Rattle.trace_lines.specs.Trace.{line_read, trace_told, IsFirstBad}

-- ---- one line

abbrev pub RefusedLinesHaveTheLeastFault : Type 0
RefusedLinesHaveTheLeastFault =
    (c : Configuration) (before : List Line) (line : List ℕ) (fault : Fault)
    → (line_read c before line ≡ Err fault) ↔ IsLeast fault (line_faults c before line)

abbrev pub ReadLinesHaveNoFault : Type 0
ReadLinesHaveNoFault =
    (c : Configuration) (before : List Line) (line : List ℕ) (said : Option Line) → line_read c before line ≡ Ok said
    → line_faults c before line ≡ []

abbrev pub LinesWithoutFaultSaySomething : Type 0
LinesWithoutFaultSaySomething =
    (c : Configuration) (before : List Line) (line : List ℕ) → line_faults c before line ≡ [] → is_skipped line ≡ false
    → is_some (line_said c line) ≡ true

-- ---- whole traces

abbrev pub TracesAreRefusedForTheirFirstBadLine : Type 0
TracesAreRefusedForTheirFirstBadLine =
    (c : Configuration) (bytes : List ℕ) (number : ℕ) (fault : Fault)
    → (trace_told c bytes ≡ Err (refusal_of number fault)) ↔ IsFirstBad c bytes number fault
