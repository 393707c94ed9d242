-- Words are joined with spaces between.
use Rattle.std.proofs.Common.{◌≡◌, ℕ, List, [], ◌∷◌, ◌++◌, map, codes, refl, ap, append-nil}
use Rattle.std.specs.Borrow.{Bor}
use Rattle.std.specs.List.{join_by, join_with_byte}

pub words_joined : (xs : List (Bor (List ℕ))) → join_by (λ x. x.now) (codes " ") xs ≡ join_with_byte 32 (map (λ x. x.now) xs)
words_joined [] = refl
words_joined (x ∷ []) = rw append-nil refl
words_joined (x ∷ y ∷ xs) = ap (λ t. x.now ++ 32 ∷ t) (words_joined (y ∷ xs))
