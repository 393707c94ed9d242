-- Ranks: how they compare, where a search for one ends, and where the slots of certain bytes begin among others.
use Rattle.std.proofs.Common.{◌≡◌, ◌<◌, ◌≤◌, ℕ, zero, suc, List, [], ◌∷◌, ◌++◌, map, get_or, length, Option, Some, unwrap_or, Result, Ok, Err, IfOk, IfErr, inl, inr, refl, sym, ◌∙◌, ap, arith}
use Rattle.std.specs.List.{AllByRecursion}
use Rattle.std.specs.List.Sorted.{IsSearchInRange, IsBinarySearchResult}
use Rattle.std.specs.Cmp.{nat_cmp_is}
use Rattle.std.specs.Cmp.Lexicographic.{slice_cmp}
use Rattle.std.specs.FinMap.{slice_cmp-IsAntisymmetric, nat_cmp-IsAntisymmetric}
use Rattle.std.specs.Ordering.{nat_cmp, ordering_then, ordering_reverse}
use Rattle.std.specs.declared.cmp.Ordering.{Ordering}
use Rattle.std.specs.declared.cmp.Ordering.TheVariants.{Less, Equal, Greater}
use Rattle.std.proofs.lemmas.Bool.{cases_lt}
use Rattle.std.proofs.lemmas.Bool.Decides.{nat_tests}
use Rattle.std.proofs.lemmas.Cmp.{nat_list_cmp_total, tied_itself}
use Rattle.std.proofs.lemmas.List.{get_or_default}
use Rattle.held_rows.specs.Index.{rank, IsAscending, IsIndex, IsStart, IsPlace, IsGap, key_in, rank_in}
use Rattle.held_rows.proofs.Counts.{count_place, row_listed}
use Rattle.held_rows.proofs.Ascents.{comparisons_rise}

-- ---- two ranks

then_equal : (o : Ordering) → ordering_then o Equal ≡ o
then_equal Less = refl
then_equal Equal = refl
then_equal Greater = refl

then_then : (o p q : Ordering) → ordering_then o (ordering_then p q) ≡ ordering_then (ordering_then o p) q
then_then Less p q = refl
then_then Equal p q = refl
then_then Greater p q = refl

then_parted : (o p : Ordering) → (o ≡ Equal → ⊥) → ordering_then o p ≡ o
then_parted Less p h = refl
then_parted Equal p h = absurd (h refl)
then_parted Greater p h = refl

below_suc : (y : ℕ) → nat_cmp 0 (suc y) ≡ Less
below_suc y = sym (nat_cmp_is 0 (suc y) Less (omega arith))

above_zero : (x : ℕ) → nat_cmp (suc x) 0 ≡ Greater
above_zero x = sym (nat_cmp_is (suc x) 0 Greater (omega arith))

below_zero : (s : ℕ) → nat_cmp s 0 ≡ Less → ⊥
below_zero zero h = cc
below_zero (suc s) h = (let other = above_zero s in let bad : Greater ≡ Less = sym other ∙ h in cc)

tied_between : (o p q : Ordering) → (ordering_then o p ≡ Less → ⊥) → ordering_then o q ≡ Less → o ≡ Equal
tied_between Less p q high low = absurd (high refl)
tied_between Equal p q high low = refl
tied_between Greater p q high low = cc

both_suc : (x y : ℕ) → nat_cmp (suc x) (suc y) ≡ nat_cmp x y
both_suc x y = grind (arith, nat_tests)

-- their bytes decide, and for the same bytes their slots
pub ranks_compared : (b c : List ℕ) (s t : ℕ) → slice_cmp nat_cmp (rank b s) (rank c t) ≡ ordering_then (slice_cmp nat_cmp b c) (nat_cmp s t)
ranks_compared [] [] s t = then_equal (nat_cmp s t)
ranks_compared [] (y ∷ c) s t = ap (λ (o : Ordering). ordering_then o (slice_cmp nat_cmp (s ∷ []) (map suc c ++ 0 ∷ t ∷ []))) (below_suc y)
ranks_compared (x ∷ b) [] s t = ap (λ (o : Ordering). ordering_then o (slice_cmp nat_cmp (map suc b ++ 0 ∷ s ∷ []) (t ∷ []))) (above_zero x)
ranks_compared (x ∷ b) (y ∷ c) s t =
    ap (λ (o : Ordering). ordering_then o (slice_cmp nat_cmp (rank b s) (rank c t))) (both_suc x y)
    ∙ ap (ordering_then (nat_cmp x y)) (ranks_compared b c s t)
    ∙ then_then (nat_cmp x y) (slice_cmp nat_cmp b c) (nat_cmp s t)

-- the slot of a rank
pub rank_slot : (b c : List ℕ) (s t : ℕ) → rank b s ≡ rank c t → s ≡ t
rank_slot [] [] s t h = cc
rank_slot [] (y ∷ c) s t h = cc
rank_slot (x ∷ b) [] s t h = cc
rank_slot (x ∷ b) (y ∷ c) s t h = (let rest : rank b s ≡ rank c t = cc in rank_slot b c s t rest)

module _ (found b c : List ℕ) (s t : ℕ) (same : found ≡ b) (o : Ordering) where
  -- ranks whose bytes compare as equal
  pub tied_ranks : (p : Ordering) → o ≡ slice_cmp nat_cmp found c → o ≡ Equal → p ≡ nat_cmp s t → p ≡ slice_cmp nat_cmp (rank b s) (rank c t)
  tied_ranks p compared tied slots =
      let D : List ℕ → Ordering = λ k. ordering_then (slice_cmp nat_cmp k c) (nat_cmp s t) in
      let T : Ordering → Ordering = λ r. ordering_then r (nat_cmp s t) in
      slots ∙ ap T (sym tied ∙ compared) ∙ ap D same ∙ sym (ranks_compared b c s t)

  -- and those whose bytes don't
  pub parted_ranks : o ≡ slice_cmp nat_cmp found c → (o ≡ Equal → ⊥) → o ≡ slice_cmp nat_cmp (rank b s) (rank c t)
  parted_ranks compared parted =
      let D : List ℕ → Ordering = λ k. ordering_then (slice_cmp nat_cmp k c) (nat_cmp s t) in
      let T : Ordering → Ordering = λ r. ordering_then r (nat_cmp s t) in
      sym (then_parted o (nat_cmp s t) parted) ∙ ap T compared ∙ ap D same ∙ sym (ranks_compared b c s t)

-- a rank among those of the same bytes is not below the least of them
none_below : (b : List ℕ) (s : ℕ) → slice_cmp nat_cmp (rank b s) (rank b 0) ≡ Less → ⊥
none_below b s h =
    let T : Ordering → Ordering = λ r. ordering_then r (nat_cmp s 0) in
    let low : nat_cmp s 0 ≡ Less = sym (ap T (tied_itself nat_list_cmp_total b)) ∙ sym (ranks_compared b b s 0) ∙ h in
    below_zero s low

-- bytes between two that are the same are these
between : (k b : List ℕ) (t s : ℕ) → (slice_cmp nat_cmp (rank k t) (rank b 0) ≡ Less → ⊥) → slice_cmp nat_cmp (rank k t) (rank b s) ≡ Less → k ≡ b
between k b t s high low =
    let o = slice_cmp nat_cmp k b in
    slice_cmp-IsAntisymmetric nat_cmp-IsAntisymmetric k b
    (tied_between o (nat_cmp t 0) (nat_cmp t s) (λ h. high (ranks_compared k b t 0 ∙ h)) (sym (ranks_compared k b t s) ∙ low))

-- ---- among others

-- what holds of all holds at each place
all_place : (P : List ℕ → Type 0) (κ : ℕ → List ℕ) (xs : List ℕ) (k d : ℕ) → AllByRecursion P (map κ xs) → k < length xs → P (κ (get_or xs k d))
all_place P κ [] k d all h = absurd (omega arith)
all_place P κ (x ∷ xs) zero d all h = all.0
all_place P κ (x ∷ xs) (suc k) d all h = all_place P κ xs k d all.1 (omega arith)

-- of two places the first has the lower one
pub ascending_places : (κ : ℕ → List ℕ) (xs : List ℕ) (j k d : ℕ) → IsAscending (map κ xs) → j < k → k < length xs → slice_cmp nat_cmp (κ (get_or xs j d)) (κ (get_or xs k d)) ≡ Less
ascending_places κ [] j k d up lt h = absurd (omega arith)
ascending_places κ (x ∷ xs) zero zero d up lt h = absurd (omega arith)
ascending_places κ (x ∷ xs) zero (suc k) d up lt h = all_place (λ later. slice_cmp nat_cmp (κ x) later ≡ Less) κ xs k d up.0 (omega arith)
ascending_places κ (x ∷ xs) (suc j) zero d up lt h = absurd (omega arith)
ascending_places κ (x ∷ xs) (suc j) (suc k) d up lt h = ascending_places κ xs j k d up.1 (omega arith) (omega arith)

module _ {R : Type 0} (key : R → Option (List ℕ)) (row : ℕ → Option R) where
  -- a search ends at the rank, or at the gap for it
  pub searched : (index : List ℕ) (wanted : List ℕ) (r : Result ℕ ℕ) → IsAscending (map (rank_in key row) index) → IsSearchInRange r (length index)
      → IsBinarySearchResult (λ s. slice_cmp nat_cmp (rank_in key row s) wanted) index r → record { found : IfOk r (IsPlace key row index wanted); absent : IfErr r (IsGap key row index wanted) }
  searched index wanted (Ok at) up within equal = record {
    found = record { in_range = within; same = slice_cmp-IsAntisymmetric nat_cmp-IsAntisymmetric (rank_in key row (get_or index at 0)) wanted (equal 0) };
    absent = tt;
  }
  searched index wanted (Err at) up within parted =
      let sides = parted (comparisons_rise (rank_in key row) index wanted up) in
      record {
        found = tt;
        absent = record {
          in_range = within;
          before = λ k d lt. sides.0 k d (omega arith) lt;
          after = λ k d le lt. sides.1 k d le lt;
        };
      }

  module _ (index bytes : List ℕ) (indexed : IsIndex key row index) where
    -- what has a place has bytes
    has_bytes : (j d : ℕ) → j < length index → (b : List ℕ) × (key_in key row (get_or index j d) ≡ Some b)
    has_bytes j d h = row_listed (key_in key row) index indexed.listed (get_or index j d) (count_place index j d h)

    module _ (place : ℕ) (within : place ≤ length index) (lower : (k d : ℕ) → k < place → slice_cmp nat_cmp (rank_in key row (get_or index k d)) (rank bytes 0) ≡ Less) (higher : (k d : ℕ) → place ≤ k → k < length index → slice_cmp nat_cmp (rank_in key row (get_or index k d)) (rank bytes 0) ≡ Less → ⊥) where
      others_before : (k d : ℕ) → k < place → key_in key row (get_or index k d) ≡ Some bytes → ⊥
      others_before k d lt has =
          let s = get_or index k d in
          let C : Option (List ℕ) → Ordering = λ o. slice_cmp nat_cmp (rank (unwrap_or o []) s) (rank bytes 0) in
          none_below bytes s (sym (ap C has) ∙ lower k d lt)

      run_on : (j k d : ℕ) → place ≤ j → j ≤ k → k < length index → key_in key row (get_or index k d) ≡ Some bytes → key_in key row (get_or index j d) ≡ Some bytes
      run_on j k d le up lt has =
          let there = has_bytes j d (omega arith) in
          let s = get_or index j d in
          let t = get_or index k d in
          let D : Option (List ℕ) → Ordering = λ o. slice_cmp nat_cmp (rank (unwrap_or o []) s) (rank bytes 0) in
          let E : Option (List ℕ) → Ordering = λ o. slice_cmp nat_cmp (rank (unwrap_or o []) s) (rank_in key row t) in
          let F : Option (List ℕ) → Ordering = λ o. slice_cmp nat_cmp (rank there.0 s) (rank (unwrap_or o []) t) in
          elim (cases_lt j k) [
            | inl below ↦
                (let ordered : slice_cmp nat_cmp (rank_in key row s) (rank_in key row t) ≡ Less = ascending_places (rank_in key row) index j k d indexed.ascending below lt in
                let same : there.0 ≡ bytes = between there.0 bytes s t (λ h. higher j d le (omega arith) (ap D there.1 ∙ h)) (sym (ap F has) ∙ sym (ap E there.1) ∙ ordered) in
                there.1 ∙ ap (λ (b : List ℕ). Some b) same)
            | inr above ↦ (let one : j ≡ k = omega arith in ap (λ (n : ℕ). key_in key row (get_or index n d)) one ∙ has)
          ]

      start_from : IsStart key row index bytes place
      start_from = record { in_range = within; before = others_before; run = run_on }

    module _ (place : ℕ) (stands : IsPlace key row index (rank bytes 0) place) where
      here : (d : ℕ) → rank_in key row (get_or index place d) ≡ rank bytes 0
      here d = ap (rank_in key row) (get_or_default index place d 0 stands.in_range) ∙ stands.same

      lower_found : (k d : ℕ) → k < place → slice_cmp nat_cmp (rank_in key row (get_or index k d)) (rank bytes 0) ≡ Less
      lower_found k d lt =
          let C : List ℕ → Ordering = λ r. slice_cmp nat_cmp (rank_in key row (get_or index k d)) r in
          sym (ap C (here d)) ∙ ascending_places (rank_in key row) index k place d indexed.ascending lt stands.in_range

      higher_found : (k d : ℕ) → place ≤ k → k < length index → slice_cmp nat_cmp (rank_in key row (get_or index k d)) (rank bytes 0) ≡ Less → ⊥
      higher_found k d le lt low =
          let κ = rank_in key row in
          let C : List ℕ → Ordering = λ r. slice_cmp nat_cmp (κ (get_or index k d)) r in
          elim (cases_lt place k) [
            | inl below ↦
                (let up = ascending_places κ index place k d indexed.ascending below lt in
                let turn : slice_cmp nat_cmp (κ (get_or index k d)) (κ (get_or index place d)) ≡ Greater =
                nat_list_cmp_total.antisymm (κ (get_or index k d)) (κ (get_or index place d)) ∙ ap ordering_reverse up in
                let bad : Greater ≡ Less = sym turn ∙ ap C (here d) ∙ low in
                cc)
            | inr above ↦
                (let one : k ≡ place = omega arith in
                let D : List ℕ → Ordering = λ r. slice_cmp nat_cmp r (rank bytes 0) in
                let K : ℕ → List ℕ = λ n. κ (get_or index n d) in
                let even : D (K k) ≡ Equal = ap D (ap K one ∙ here d) ∙ tied_itself nat_list_cmp_total (rank bytes 0) in
                let bad : Equal ≡ Less = sym even ∙ low in
                cc)
          ]

      pub start_found : IsStart key row index bytes place
      start_found = start_from place (let h = stands.in_range in omega (arith, h)) lower_found higher_found

    pub start_gap : (place : ℕ) → IsGap key row index (rank bytes 0) place → IsStart key row index bytes place
    start_gap place gap = start_from place gap.in_range gap.before (λ k d le lt low. (let high = gap.after k d le lt in let bad : Greater ≡ Less = sym high ∙ low in cc))
