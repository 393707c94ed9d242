-- The history of what is kept and of the inner core's history, after one more entry.
use Rattle.std.proofs.Common.{◌≡◌, ℕ, suc, List, [], ◌∷◌, ◌++◌, length, filter_map, Option, Some, None, refl, ap, ◌∙◌, arith}
use Rattle.std.specs.List.{cons_option}
use Rattle.core_stack.specs.declared.kept.Kept.{Kept}
use Rattle.core_stack.specs.declared.kept.Kept.TheVariants as kept
use Rattle.core_stack.specs.Kept.{passed_count, merged}

one_less : (n m : ℕ) → suc n ≡ suc m → n ≡ m
one_less n m e = omega (arith, e)

none_is_one : (n : ℕ) → suc n ≡ 0 → ⊥
none_is_one n e = omega (arith, e)

none_is_more : (n : ℕ) → 0 ≡ suc n → ⊥
none_is_more n e = omega (arith, e)

module _ {K E : Type 0} where
  pub count_passes : (ks : List (Kept K E)) (k : K) → passed_count (ks ++ kept.Passed k ∷ []) ≡ suc (passed_count ks)
  count_passes [] k = refl
  count_passes (kept.Passed l ∷ ks) k = ap suc (count_passes ks k)
  count_passes (kept.Own e ∷ ks) k = count_passes ks k

  pub count_own : (ks : List (Kept K E)) (e : E) → passed_count (ks ++ kept.Own e ∷ []) ≡ passed_count ks
  count_own [] e = refl
  count_own (kept.Passed l ∷ ks) e = ap suc (count_own ks e)
  count_own (kept.Own f ∷ ks) e = count_own ks e

module _ {K E P Q : Type 0} (around : K → P → Q) (own : E → Q) where
  pub merged_passes : (ks : List (Kept K E)) (inner : List P) (k : K) (p : P) → passed_count ks ≡ length inner
      → merged around own (ks ++ kept.Passed k ∷ []) (inner ++ p ∷ []) ≡ merged around own ks inner ++ around k p ∷ []
  merged_passes [] [] k p same = refl
  merged_passes [] (q ∷ inner) k p same = absurd (none_is_more (length inner) same)
  merged_passes (kept.Passed l ∷ ks) [] k p same = absurd (none_is_one (passed_count ks) same)
  merged_passes (kept.Passed l ∷ ks) (q ∷ inner) k p same =
      let F : List Q → List Q = λ h. around l q ∷ h in
      ap F (merged_passes ks inner k p (one_less (passed_count ks) (length inner) same))
  merged_passes (kept.Own e ∷ ks) inner k p same =
      let F : List Q → List Q = λ h. own e ∷ h in
      ap F (merged_passes ks inner k p same)

  pub merged_own : (ks : List (Kept K E)) (inner : List P) (e : E) → passed_count ks ≡ length inner
      → merged around own (ks ++ kept.Own e ∷ []) inner ≡ merged around own ks inner ++ own e ∷ []
  merged_own [] [] e same = refl
  merged_own [] (q ∷ inner) e same = absurd (none_is_more (length inner) same)
  merged_own (kept.Passed l ∷ ks) [] e same = absurd (none_is_one (passed_count ks) same)
  merged_own (kept.Passed l ∷ ks) (q ∷ inner) e same =
      let F : List Q → List Q = λ h. around l q ∷ h in
      ap F (merged_own ks inner e (one_less (passed_count ks) (length inner) same))
  merged_own (kept.Own f ∷ ks) inner e same =
      let F : List Q → List Q = λ h. own f ∷ h in
      ap F (merged_own ks inner e same)

  pub merged_length : (ks : List (Kept K E)) (inner : List P) → passed_count ks ≡ length inner → length ks ≡ length (merged around own ks inner)
  merged_length [] [] same = refl
  merged_length [] (q ∷ inner) same = absurd (none_is_more (length inner) same)
  merged_length (kept.Passed l ∷ ks) [] same = absurd (none_is_one (passed_count ks) same)
  merged_length (kept.Passed l ∷ ks) (q ∷ inner) same = ap suc (merged_length ks inner (one_less (passed_count ks) (length inner) same))
  merged_length (kept.Own e ∷ ks) inner same = ap suc (merged_length ks inner same)

  module _ (passed : Q → Option P) (passes : (k : K) (p : P) → passed (around k p) ≡ Some p) (owns : (e : E) → passed (own e) ≡ None) where
    -- the inner core's history can be read off the history
    pub inner_of_merged : (ks : List (Kept K E)) (inner : List P) → passed_count ks ≡ length inner → filter_map passed (merged around own ks inner) ≡ inner
    inner_of_merged [] [] same = refl
    inner_of_merged [] (q ∷ inner) same = absurd (none_is_more (length inner) same)
    inner_of_merged (kept.Passed l ∷ ks) [] same = absurd (none_is_one (passed_count ks) same)
    inner_of_merged (kept.Passed l ∷ ks) (q ∷ inner) same =
        let F : Option P → List P = λ o. cons_option o (filter_map passed (merged around own ks inner)) in
        let push : List P → List P = λ h. q ∷ h in
        ap F (passes l q) ∙ ap push (inner_of_merged ks inner (one_less (passed_count ks) (length inner) same))
    inner_of_merged (kept.Own e ∷ ks) inner same =
        let F : Option P → List P = λ o. cons_option o (filter_map passed (merged around own ks inner)) in
        ap F (owns e) ∙ inner_of_merged ks inner same
