-- How often a slot is among others.
use Rattle.std.specs.Prelude.{◌≡◌, ◌+◌, ◌==◌, ℕ, List, [], ◌∷◌, Option, is_some, if◌then◌else◌}

-- how often a slot is among these
abbrev pub count : ℕ → List ℕ → ℕ
count slot [] = 0
count slot (s ∷ slots) = (if slot == s then 1 else 0) + count slot slots

-- the slots that have a row are these, each once
abbrev pub Lists : {E : Type 0} → (ℕ → Option E) → List ℕ → Type 0
Lists row slots = (slot : ℕ) → count slot slots ≡ (if is_some (row slot) then 1 else 0)
