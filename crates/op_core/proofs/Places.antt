-- A past has as many pairs as its history.
use Rattle.std.proofs.Common.{◌≡◌, List, length, reverse, sym}
use Rattle.std.proofs.lemmas.List.{length-reverse}
use Rattle.op_answer.specs.Past.{OpPair}

pub as_long : (history : List OpPair) → length history ≡ length (reverse history)
as_long history = sym (length-reverse history)
