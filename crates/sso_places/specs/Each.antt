-- Two lists of the same length whose elements are related, in order.
use Rattle.std.specs.Prelude.{List, [], ◌∷◌}

abbrev pub Each : {A B : Type 0} → (A → B → Type 0) → List A → List B → Type 0
Each R [] [] = Unit {0}
Each R (x ∷ xs) (y ∷ ys) = R x y × Each R xs ys
Each R xs ys = ⊥
