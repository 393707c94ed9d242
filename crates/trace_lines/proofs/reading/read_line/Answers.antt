use Rattle.std.proofs.Common.{arith}
use Rattle.trace_lines.proofs.LineReading.{long_refused}
use Rattle.trace_lines.proofs.reading.read_line.Goals as goal

pub returns-then-line-gt-MOST_OF_LINE : goal.returns-then-line-gt-MOST_OF_LINE
returns-then-line-gt-MOST_OF_LINE c = long_refused c.args.registry.now c.args.before.now c.args.line.now (omega arith)
