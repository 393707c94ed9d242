-- Passes that are taken out of their list and put back, for the crates above.
use Rattle.std.proofs.Common.{◌≡◌, ◌<◌, List, [], ◌∷◌, ◌++◌, map, length, Bool, true, false, sym, ap, ◌∙◌, subst}
use Rattle.std.specs.Prelude.{slice_index_or, MatchBool, if◌then◌else◌}
use Rattle.std.specs.List.{All, AllByRecursion, remove}
use Rattle.std.proofs.lemmas.List.{map-append}
use Rattle.std.proofs.lemmas.List.Elements.{All-push}
use Rattle.turn_store.specs.declared.store.Pass.{Pass}
use Rattle.turn_store.specs.Passes.{number_of}
use Rattle.turn_store.proofs.Ending.{all_by, by_all, removed}

pub all_removed : {A : Type 0} (P : A → Type 0) (items left : List A) (first : A) → All P items → 0 < length items → first ≡ slice_index_or items 0 first → left ≡ remove items 0 → P first × All P left
all_removed {A} P items left first all pos is rest =
    let both : AllByRecursion P (first ∷ left) = subst (λ (l : List A). AllByRecursion P l) (removed items left first pos is rest) (all_by P items all) in
    (both.0, by_all P left both.1)

pub all_pushed : {A : Type 0} (P : A → Type 0) (b : Bool) (xs ys : List A) (x : A) → All P xs → P x → ys ≡ (if b then xs ++ x ∷ [] else xs) → All P ys
all_pushed {A} P true xs ys x all one is = subst (λ (l : List A). All P l) (sym is) (All-push P xs x all one)
all_pushed {A} P false xs ys x all one is = subst (λ (l : List A). All P l) (sym is) all

pub numbers_pushed : {C A R : Type 0} (b : Bool) (xs ys : List (Pass C A R)) (x : Pass C A R) → ys ≡ (if b then xs ++ x ∷ [] else xs) → MatchBool b (map number_of ys ≡ map number_of xs ++ number_of x ∷ []) (Unit {0})
numbers_pushed {C} {A} {R} true xs ys x is = ap (λ (ps : List (Pass C A R)). map number_of ps) is ∙ map-append (number_of {C = C} {A = A} {R = R}) xs (x ∷ [])
numbers_pushed {C} {A} {R} false xs ys x is = tt
