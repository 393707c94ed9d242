-- Going over a list by places: what is left of it, one step on.
use Rattle.std.proofs.Common.{◌≡◌, ◌<◌, ℕ, suc, ◌+◌, Bool, true, false, cond, List, [], ◌∷◌, length, drop, slice_get, Option, Some, ◌∙◌, ap, arith}
use Rattle.std.specs.List.{position_from}
use Rattle.std.proofs.lemmas.List.{drop_more}
use Rattle.std.proofs.lemmas.Option.{slice_get_within, get_or_from_slice_get}

pub drop_at : {A : Type 0} (xs : List A) (i : ℕ) (x : A) → slice_get xs i ≡ Some x → drop i xs ≡ x ∷ drop (i + 1) xs
drop_at {A} xs i x h = drop_more xs i x (slice_get_within xs i x h) ∙ ap (λ (y : A). y ∷ drop (i + 1) xs) (get_or_from_slice_get xs i x x h)

-- ---- the place of what passes a test

below_at : (n i m : ℕ) (t : Bool) (o : Option ℕ) → cond t (Some n) o ≡ Some i → (o ≡ Some i → i < (n + 1) + m) → i < n + suc m
below_at n i m true o h later = let same : n ≡ i = cc in omega (arith, same)
below_at n i m false o h later = omega (arith, later h)

pub place_below : {A : Type 0} (f : A → Bool) (n i : ℕ) (xs : List A) → position_from f n xs ≡ Some i → i < n + length xs
place_below f n i [] h = absurd (cc)
place_below f n i (x ∷ xs) h = below_at n i (length xs) (f x) (position_from f (n + 1) xs) h (place_below f (n + 1) i xs)
