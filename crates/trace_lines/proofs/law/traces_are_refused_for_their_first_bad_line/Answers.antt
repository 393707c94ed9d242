use Rattle.trace_lines.proofs.Refusing.{size_refused, long_refused, header_refused, headless_refused, refused_first_bad, first_bad_refused}
use Rattle.trace_lines.proofs.law.traces_are_refused_for_their_first_bad_line.Goals as goal

pub returns-clause-size : goal.returns-clause-size
returns-clause-size c = λ k bytes. (size_refused k bytes, long_refused k bytes)

pub returns-clause-header : goal.returns-clause-header
returns-clause-header c = λ k bytes. (header_refused k bytes, headless_refused k bytes)

pub returns-clause-line : goal.returns-clause-line
returns-clause-line c = λ k bytes number fault. (refused_first_bad k bytes number fault, first_bad_refused k bytes number fault)
