use Rattle.std.proofs.Common.{◌≡◌, drop}
use Rattle.pkce_check.specs.Reading.{value_of}
use Rattle.pkce_check.proofs.reading.value_of.Given as goal

-- what the pairs to come give is what all give
abbrev pub invariant-loop-pair : goal.invariant-loop-pair
invariant-loop-pair l = value_of l.name (drop l.pair-index l.pairs) ≡ value_of l.name l.pairs
