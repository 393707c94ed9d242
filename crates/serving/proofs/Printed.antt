-- Messages that are printed one after another.
use Rattle.std.proofs.Common.{◌≡◌, ℕ, ◌+◌, ◌<◌, List, [], ◌∷◌, ◌++◌, map, length, take, Some, ap, ap₂, sym, ◌∙◌}
use Rattle.std.specs.Prelude.{slice_get}
use Rattle.std.proofs.lemmas.List.{take_more, map-append}
use Rattle.std.proofs.lemmas.Option.{get_or_from_slice_get}

pub map_more : {A B : Type 0} (f : A → B) (xs : List A) (ys zs : List B) (i : ℕ) (x : A) (y : B) → ys ≡ map f (take i xs) → i < length xs → slice_get xs i ≡ Some x → y ≡ f x → zs ≡ ys ++ y ∷ [] → zs ≡ map f (take (i + 1) xs)
map_more f xs ys zs i x y sofar here is made longer =
    let next : take (i + 1) xs ≡ take i xs ++ x ∷ [] = take_more xs i x here ∙ ap (λ e. take i xs ++ e ∷ []) (get_or_from_slice_get xs i x x is) in
    longer ∙ ap₂ (λ front last. front ++ last ∷ []) sofar made ∙ sym (ap (map f) next ∙ map-append f (take i xs) (x ∷ []))
