-- Prefixes of a history, calls that are in it, and how often a place occurs. Places count from 1.
use Rattle.std.specs.Prelude.{Bool, true, ◌≡◌, ℕ, zero, suc, ◌+◌, ◌-◌, ◌<◌, ◌≤◌, ◌==◌, List, [], ◌∷◌, ◌++◌, map, length, take, if◌then◌else◌}
use Rattle.turn_store.specs.declared.view.Called.{Called}

-- the sum of the numbers of the elements
abbrev pub total : {A : Type 0} → (A → ℕ) → List A → ℕ
total f [] = 0
total f (x ∷ xs) = f x + total f xs

-- how often the place is in the list
abbrev pub times : ℕ → List ℕ → ℕ
times place places = total (λ (n : ℕ). if n == place then 1 else 0) places

-- each place up to this one is in exactly one of the lists, and there once
abbrev pub IsEachOnce : ℕ → List (List ℕ) → Type 0
IsEachOnce last lists = (place : ℕ) → 0 < place → place ≤ last → total (times place) lists ≡ 1

-- `count` numbers, from `first` on
abbrev pub numbers_from : ℕ → ℕ → List ℕ
numbers_from first zero = []
numbers_from first (suc count) = first ∷ numbers_from (suc first) count

-- the stored places are all of them, if this is true
pub record AreStored (whole : Bool) (stored places : List ℕ) : Type 0 where
  pub all : whole ≡ true → stored ≡ places

module _ {E : Type 0} where
  -- the first list is a prefix of the second
  abbrev pub Begins : List E → List E → Type 0
  Begins front whole = (rest : List E) × (whole ≡ front ++ rest)

  -- the list without its last element
  abbrev pub before_last : List E → List E
  before_last whole = take (length whole - 1) whole

  -- a call that stored this pair at this place
  abbrev pub call_at : ℕ → E → Called E
  call_at place pair = record { place = place; pair = pair }

  -- the pair of the call is in the history, at its place
  abbrev pub StandsIn : List E → Called E → Type 0
  StandsIn history call = (before : List E) × (after : List E) × (history ≡ before ++ call.pair ∷ after) × (call.place ≡ length before + 1)

  -- the places of some calls, in their order
  abbrev pub places_of : List (Called E) → List ℕ
  places_of calls = map (λ (call : Called E). call.place) calls
