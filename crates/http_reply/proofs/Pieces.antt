-- Texts that are joined of pieces.
use Rattle.std.proofs.Common.{◌≡◌, ℕ, List, [], ◌∷◌, ◌++◌, map, refl, ap}
use Rattle.std.specs.Borrow.{Bor}
use Rattle.std.specs.List.{concat, flat_map}

pub pieces_joined : (xs : List (Bor (List ℕ))) → flat_map (λ x. x.now) xs ≡ concat (map (λ x. x.now) xs)
pieces_joined [] = refl
pieces_joined (x ∷ xs) = ap (λ t. x.now ++ t) (pieces_joined xs)
