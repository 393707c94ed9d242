-- The bytes of a place in a history, the highest first.
use Rattle.std.specs.Prelude.{ℕ, List}
use Rattle.std.specs.Int.{w64, to_be_bytes}

abbrev pub place_bytes : ℕ → List ℕ
place_bytes n = to_be_bytes w64 n
