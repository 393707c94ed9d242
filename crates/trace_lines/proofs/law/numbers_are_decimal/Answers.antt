use Rattle.trace_lines.proofs.Decimals.{number_is_decimal}
use Rattle.trace_lines.proofs.law.numbers_are_decimal.Goals as goal

pub returns : goal.returns
returns c = number_is_decimal
