use Rattle.trace_lines.proofs.LineReading.{line_guiltless, line_refused, guiltless_read, guilty_refused}
use Rattle.trace_lines.proofs.Saying.{line_speaks}
use Rattle.trace_lines.proofs.law.the_least_fault_is_answered.Goals as goal

pub returns-clause-refused : goal.returns-clause-refused
returns-clause-refused c = λ k before line fault. (line_refused k before line fault, guilty_refused k before line fault)

pub returns-clause-guiltless : goal.returns-clause-guiltless
returns-clause-guiltless c = line_guiltless

pub returns-clause-read : goal.returns-clause-read
returns-clause-read c = guiltless_read

pub returns-clause-says : goal.returns-clause-says
returns-clause-says c = line_speaks
