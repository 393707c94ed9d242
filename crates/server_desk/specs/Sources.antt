-- What sources give, if it is known. What a source has left is an option: it is unknown for a real connection.
use Rattle.std.specs.Prelude.{◌≡◌, ℕ, ◌≤◌, List, [], ◌++◌, length, take, Option, Some, None, option_map}

-- a source whose calls with some numbers fail, from 1: the bytes that it has left, those numbers, its number of calls, and of
-- faults
pub record FaultySourceMemory : Type 0 where
  pub bytes : List ℕ
  pub failing : List ℕ
  pub calls : ℕ
  pub faults : ℕ

-- the bytes that were left are this piece, followed by the bytes that are left now
abbrev pub Gives : Option (List ℕ) → Option (List ℕ) → List ℕ → Type 0
Gives old new piece = old ≡ option_map (λ rest. piece ++ rest) new

-- the bytes that were left are a prefix of this piece, followed by the bytes that are left now
abbrev pub GivesFront : Option (List ℕ) → Option (List ℕ) → List ℕ → Type 0
GivesFront old new piece = (count : ℕ) × (count ≤ length piece) × Gives old new (take count piece)

-- no byte is left
abbrev pub IsSpent : Option (List ℕ) → Type 0
IsSpent None = Unit {0}
IsSpent (Some rest) = rest ≡ []
