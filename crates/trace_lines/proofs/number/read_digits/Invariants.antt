use Rattle.std.proofs.Common.{◌≡◌, drop}
use Rattle.trace_lines.specs.Number.{digits_from}
use Rattle.trace_lines.proofs.number.read_digits.Given as goal

abbrev pub invariant-loop-byte : goal.invariant-loop-byte
invariant-loop-byte l = digits_from l.number (drop l.byte-index l.word) ≡ digits_from 0 l.word
