-- The journal of a core that stands around another one.
use Rattle.std.specs.Prelude.{◌≡◌, ◌≤◌, ◌<◌, ◌*◌, ◌^◌, ℕ, Bool, true, false, List, [], length}
use Rattle.core_stack.specs.declared.kept.Kept.{Kept}

-- what is kept of the entries, oldest first, the number of entries that there is room for, the weight of the history, the moment of
-- its last entry, and the greatest weight that it may have
pub record KeptEntries (K E : Type 0) : Type 0 where
  pub kept : List (Kept K E)
  pub capacity : ℕ
  pub weight : ℕ
  pub last : ℕ
  pub most : ℕ

-- What is stored is all that is kept, or nothing. No entry weighs less than 1,024, and the weight is at most the limit.
pub record IsKeptJournal {K E : Type 0} (stores : Bool) (kept stored : List (Kept K E)) (count weight most : ℕ) : Type 0 where
  pub all : stores ≡ true → stored ≡ kept
  pub none : stores ≡ false → stored ≡ []
  pub count_is : count ≡ length kept
  pub few : 1024 * count ≤ weight
  pub light : weight ≤ most
  pub short : most < 2 ^ 63
