-- The history of a core that stands around another one, of what it keeps and of the inner core's history. Both are lists, oldest
-- first. `around` gives the pair of an entry that was passed on, and `own` that of an entry that the core answered by itself.
use Rattle.std.specs.Prelude.{ℕ, suc, List, [], ◌∷◌}
use Rattle.core_stack.specs.declared.kept.Kept.{Kept}
use Rattle.core_stack.specs.declared.kept.Kept.TheVariants.{Passed, Own}

-- how many entries were passed on
abbrev pub passed_count : {K E : Type 0} → List (Kept K E) → ℕ
passed_count [] = 0
passed_count (Passed k ∷ more) = suc (passed_count more)
passed_count (Own e ∷ more) = passed_count more

-- the pairs of the entries, in their order
abbrev pub merged : {K E P Q : Type 0} → (K → P → Q) → (E → Q) → List (Kept K E) → List P → List Q
merged around own [] inner = []
merged around own (Passed k ∷ more) [] = []
merged around own (Passed k ∷ more) (p ∷ inner) = around k p ∷ merged around own more inner
merged around own (Own e ∷ more) inner = own e ∷ merged around own more inner
