-- Membership in a list, by recursion on it.
use Rattle.std.specs.Prelude.{◌≡◌, List, [], ◌∷◌, ◌⊎◌}

-- the list has this element
abbrev pub Has : {A : Type 0} → List A → A → Type 0
Has [] x = ⊥
Has (y ∷ ys) x = (y ≡ x) ⊎ Has ys x

abbrev pub Lacks : {A : Type 0} → List A → A → Type 0
Lacks xs x = Has xs x → ⊥

-- no element occurs twice
abbrev pub AreDistinct : {A : Type 0} → List A → Type 0
AreDistinct [] = Unit {0}
AreDistinct (x ∷ xs) = Lacks xs x × AreDistinct xs
