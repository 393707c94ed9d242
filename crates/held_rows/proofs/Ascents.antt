-- Keys that rise, and a search among them.
use Rattle.std.proofs.Common.{◌≡◌, ◌<◌, ◌≤◌, ◌+◌, ℕ, zero, suc, Bool, List, [], ◌∷◌, ◌++◌, map, take, drop, get_or, length, sym, ◌∙◌, ap, arith}
use Rattle.std.specs.List.{AllByRecursion}
use Rattle.std.specs.List.Sorted.{IsSortedBy, IsNonDecreasingBy}
use Rattle.std.specs.Cmp.Lexicographic.{slice_cmp}
use Rattle.std.specs.Ordering.{nat_cmp, is_lt, ordering_index, ordering_reverse}
use Rattle.std.specs.declared.cmp.Ordering.TheVariants.{Less, Greater}
use Rattle.std.proofs.lemmas.Cmp.{nat_list_cmp_total}
use Rattle.std.proofs.lemmas.List.Sorted.{searchable_from_sorted}
use Rattle.held_rows.specs.Index.{IsAscending}
use Rattle.held_rows.proofs.Middles.{all_taken, all_put}

pub ascending_taken : (ks : List (List ℕ)) (k : List ℕ) (ls : List (List ℕ)) → IsAscending (ks ++ k ∷ ls) → IsAscending (ks ++ ls)
ascending_taken [] k ls up = up.1
ascending_taken (x ∷ ks) k ls up = (all_taken (λ (y : List ℕ). slice_cmp nat_cmp x y ≡ Less) ks k ls up.0, ascending_taken ks k ls up.1)

pub ascending_put : (ks : List (List ℕ)) (k : List ℕ) (ls : List (List ℕ)) → IsAscending (ks ++ ls) → AllByRecursion (λ x. slice_cmp nat_cmp x k ≡ Less) ks → AllByRecursion (λ x. slice_cmp nat_cmp k x ≡ Less) ls → IsAscending (ks ++ k ∷ ls)
ascending_put [] k ls up before behind = (behind, up)
ascending_put (x ∷ ks) k ls up before behind =
    (all_put (λ (y : List ℕ). slice_cmp nat_cmp x y ≡ Less) ks k ls before.0 up.0, ascending_put ks k ls up.1 before.1 behind)

-- what holds of the elements below a place, and from it on
pub all_front : (P : List ℕ → Type 0) (κ : ℕ → List ℕ) (n : ℕ) (xs : List ℕ) → n ≤ length xs → ((k d : ℕ) → k < n → P (κ (get_or xs k d))) → AllByRecursion P (map κ (take n xs))
all_front P κ zero xs le h = tt
all_front P κ (suc n) [] le h = tt
all_front P κ (suc n) (x ∷ xs) le h = (h zero zero (omega arith), all_front P κ n xs (omega arith) (λ k d lt. h (suc k) d (omega arith)))

pub all_back : (P : List ℕ → Type 0) (κ : ℕ → List ℕ) (n : ℕ) (xs : List ℕ) → ((k d : ℕ) → n ≤ k → k < length xs → P (κ (get_or xs k d))) → AllByRecursion P (map κ (drop n xs))
all_back P κ zero [] h = tt
all_back P κ zero (x ∷ xs) h = (h zero zero (omega arith) (omega arith), all_back P κ zero xs (λ k d le lt. h (suc k) d (omega arith) (omega arith)))
all_back P κ (suc n) [] h = tt
all_back P κ (suc n) (x ∷ xs) h = all_back P κ n xs (λ k d le lt. h (suc k) d (omega arith) (omega arith))

-- each is below the next
adjacent : (κ : ℕ → List ℕ) (xs : List ℕ) → IsAscending (map κ xs) → (k d : ℕ) → suc k < length xs → slice_cmp nat_cmp (κ (get_or xs k d)) (κ (get_or xs (suc k) d)) ≡ Less
adjacent κ [] up k d h = absurd (omega arith)
adjacent κ (x ∷ []) up k d h = absurd (omega arith)
adjacent κ (x ∷ y ∷ xs) up zero d h = up.0.0
adjacent κ (x ∷ y ∷ xs) up (suc k) d h = adjacent κ (y ∷ xs) up.1 k d (omega arith)

sorted : (κ : ℕ → List ℕ) (xs : List ℕ) → IsAscending (map κ xs) → IsSortedBy (λ a b. is_lt (slice_cmp nat_cmp (κ a) (κ b))) xs
sorted κ xs up k d low h =
    let up_one : slice_cmp nat_cmp (κ (get_or xs k d)) (κ (get_or xs (suc k) d)) ≡ Less = adjacent κ xs up k d (omega arith) in
    let next : suc k ≡ k + 1 = omega arith in
    let turn : slice_cmp nat_cmp (κ (get_or xs (suc k) d)) (κ (get_or xs k d)) ≡ Greater = nat_list_cmp_total.antisymm (κ (get_or xs (suc k) d)) (κ (get_or xs k d)) ∙ ap ordering_reverse up_one in
    let N : ℕ → Bool = λ n. is_lt (slice_cmp nat_cmp (κ (get_or xs n d)) (κ (get_or xs k d))) in
    ap N (sym next) ∙ ap is_lt turn

-- the answers of comparisons with a key rise, as a binary search asks
pub comparisons_rise : (κ : ℕ → List ℕ) (xs : List ℕ) (key : List ℕ) → IsAscending (map κ xs) → IsNonDecreasingBy (λ s. ordering_index (slice_cmp nat_cmp (κ s) key)) xs
comparisons_rise κ xs key up = searchable_from_sorted nat_list_cmp_total κ xs key (sorted κ xs up)
