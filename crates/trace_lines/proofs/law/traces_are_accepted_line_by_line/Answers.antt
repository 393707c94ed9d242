use Rattle.trace_lines.proofs.Refusing.{told_trace, trace_is_told}
use Rattle.trace_lines.proofs.Keeping.{told_read_for}
use Rattle.trace_lines.proofs.law.traces_are_accepted_line_by_line.Goals as goal

pub returns-clause-accepted : goal.returns-clause-accepted
returns-clause-accepted c = λ k bytes told. (told_trace k bytes told, trace_is_told k bytes told)

pub returns-clause-order : goal.returns-clause-order
returns-clause-order c = told_read_for
