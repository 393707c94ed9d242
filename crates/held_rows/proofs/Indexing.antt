-- What stays true of an index when a slot is put in or taken out.
use Rattle.std.proofs.Common.{◌≡◌, ◌≢◌, ◌<◌, ◌≤◌, ℕ, Result, Ok, Err, OnOk, OnErr, suc, eqb, Bool, cond, List, [], ◌∷◌, ◌++◌, map, take, drop, get_or, length, Option, Some, None, is_some, option_and_then, unwrap_or, inl, inr, sym, ◌∙◌, ap, subst, arith}
use Rattle.std.specs.List.{AllByRecursion, insert, remove}
use Rattle.std.specs.Cmp.Lexicographic.{slice_cmp}
use Rattle.std.specs.Ordering.{nat_cmp, ordering_reverse}
use Rattle.std.specs.declared.cmp.Ordering.{Ordering}
use Rattle.std.specs.declared.cmp.Ordering.TheVariants.{Less, Equal, Greater}
use Rattle.std.proofs.lemmas.Bool.{cases_lt}
use Rattle.std.proofs.lemmas.Bool.Decides.{nat_tests}
use Rattle.std.proofs.lemmas.Cmp.{nat_list_cmp_total, tied_itself}
use Rattle.std.proofs.lemmas.List.{map-append, take-append-drop}
use Rattle.sso_base.proofs.RowLaws.{bool_cases}
use Rattle.held_rows.specs.Counts.{count, Lists}
use Rattle.held_rows.specs.Index.{rank, IsAscending, IsIndex, IsPlace, IsGap, key_in, rank_in, all_but}
use Rattle.held_rows.proofs.Counts.{same_or_other, place_count, split_place, count_place, map_same, listed_row, listed_none, lists_taken, lists_put, others_differ}
use Rattle.held_rows.proofs.Ascents.{ascending_taken, ascending_put, all_front, all_back}
use Rattle.held_rows.proofs.Ranks.{rank_slot}

-- a deque refuses what is put in only where it is full
pub inserted : {T E P : Type 0} (result : Result T E) (len capacity : ℕ) → OnOk result P → OnErr result (capacity ≤ len) → len < capacity → P
inserted (Ok done) len capacity put full room = put
inserted (Err refused) len capacity put full room = absurd (omega (arith, full, room))

-- a list around one of its places
pub around : (xs : List ℕ) (i s : ℕ) → i < length xs → get_or xs i 0 ≡ s → xs ≡ take i xs ++ s ∷ drop (suc i) xs
around xs i s h here = sym (split_place xs i 0 h) ∙ ap (λ (x : ℕ). take i xs ++ x ∷ drop (suc i) xs) here

module _ {R : Type 0} (key : R → Option (List ℕ)) where
  -- where all slots have the bytes that they had
  pub index_same : (f g : ℕ → Option R) (index : List ℕ) → ((t : ℕ) → key_in key g t ≡ key_in key f t) → IsIndex key f index → IsIndex key g index
  index_same f g index same indexed =
      let L : Option (List ℕ) → ℕ = λ o. cond (is_some o) 1 0 in
      record {
        listed = λ t. indexed.listed t ∙ sym (ap L (same t));
        ascending = subst IsAscending (sym (map_same (rank_in key f) (rank_in key g) index (λ t h. ap (λ (o : Option (List ℕ)). rank (unwrap_or o []) t) (same t)))) indexed.ascending;
      }

  module _ (row : ℕ → Option R) (slot : ℕ) where
    -- ---- without the slot

    but_slot : key_in key (all_but slot row) slot ≡ None
    but_slot =
        let F : Bool → Option (List ℕ) = λ b. option_and_then key (cond b None (row slot)) in
        elim (bool_cases (eqb slot slot)) [
          | inl e ↦ ap F e
          | inr e ↦ absurd (grind (arith, nat_tests))
        ]

    but_other : (t : ℕ) → t ≢ slot → key_in key (all_but slot row) t ≡ key_in key row t
    but_other t other =
        let F : Bool → Option (List ℕ) = λ b. option_and_then key (cond b None (row t)) in
        elim (bool_cases (eqb t slot)) [
          | inl e ↦ absurd (grind (arith, nat_tests))
          | inr e ↦ ap F e
        ]

    rank_other : (t : ℕ) → t ≢ slot → rank_in key (all_but slot row) t ≡ rank_in key row t
    rank_other t other = ap (λ (o : Option (List ℕ)). rank (unwrap_or o []) t) (but_other t other)

    -- a slot with no bytes is in no index
    but_none : key_in key row slot ≡ None → (t : ℕ) → key_in key (all_but slot row) t ≡ key_in key row t
    but_none none t =
        let B = key_in key (all_but slot row) in
        let K = key_in key row in
        elim (same_or_other t slot) [
          | inl same ↦ ap B same.0 ∙ but_slot ∙ sym none ∙ sym (ap K same.0)
          | inr other ↦ but_other t other.0
        ]

    module _ (index : List ℕ) where
      pub put_none : key_in key row slot ≡ None → IsIndex key (all_but slot row) index → IsIndex key row index
      put_none none indexed = index_same (all_but slot row) row index (λ t. sym (but_none none t)) indexed

      pub taken_none : key_in key row slot ≡ None → IsIndex key row index → IsIndex key (all_but slot row) index
      taken_none none indexed = index_same row (all_but slot row) index (but_none none) indexed

      -- ---- a slot is put in

      module _ (indexed : IsIndex key (all_but slot row) index) where
        away : (t : ℕ) → 0 < count t index → t ≢ slot
        away t h same =
            let none = listed_none (key_in key (all_but slot row)) index indexed.listed slot but_slot in
            let C : ℕ → Type 0 = λ x. 0 < count x index in
            let there : 0 < count slot index = subst C same h in
            omega (arith, none)

        -- the others have the ranks that they had
        pub ranks_put : IsAscending (map (rank_in key row) index)
        ranks_put = subst IsAscending (map_same (rank_in key row) (rank_in key (all_but slot row)) index (λ t h. rank_other t (away t h))) indexed.ascending

        -- and none of them is that of the slot
        pub unplaced : (bytes : List ℕ) (place : ℕ) → IsPlace key row index (rank bytes slot) place → ⊥
        unplaced bytes place stands =
            let t = get_or index place 0 in
            away t (count_place index place 0 stands.in_range) (rank_slot (unwrap_or (key_in key row t) []) bytes t slot stands.same)

        pub put_at : (bytes : List ℕ) (place : ℕ) → key_in key row slot ≡ Some bytes → IsGap key row index (rank bytes slot) place → IsIndex key row (insert index place slot)
        put_at bytes place has gap =
            let r = rank_in key row in
            let wanted = rank bytes slot in
            let front = take place index in
            let back = drop place index in
            let whole : front ++ back ≡ index = take-append-drop place index in
            let halves : map r index ≡ map r front ++ map r back = sym (ap (map r) whole) ∙ map-append r front back in
            let here : r slot ≡ wanted = ap (λ (o : Option (List ℕ)). rank (unwrap_or o []) slot) has in
            let low : AllByRecursion (λ x. slice_cmp nat_cmp x wanted ≡ Less) (map r front) = all_front (λ x. slice_cmp nat_cmp x wanted ≡ Less) r place index gap.in_range (λ k d lt. gap.before k d lt) in
            let high : AllByRecursion (λ x. slice_cmp nat_cmp wanted x ≡ Less) (map r back) =
            all_back (λ x. slice_cmp nat_cmp wanted x ≡ Less) r place index (λ k d le lt. nat_list_cmp_total.antisymm wanted (r (get_or index k d)) ∙ ap ordering_reverse (gap.after k d le lt)) in
            let ranks : map r (front ++ slot ∷ back) ≡ map r front ++ wanted ∷ map r back =
            map-append r front (slot ∷ back) ∙ ap (λ (x : List ℕ). map r front ++ x ∷ map r back) here in
            let L : List ℕ → Type 0 = Lists (key_in key (all_but slot row)) in
            record {
              listed = lists_put (key_in key (all_but slot row)) (key_in key row) front slot back bytes (subst L (sym whole) indexed.listed) but_slot has (λ t other. sym (but_other t other));
              ascending = subst IsAscending (sym ranks) (ascending_put (map r front) wanted (map r back) (subst IsAscending halves ranks_put) low high);
            }

      -- ---- a slot is taken out

      module _ (indexed : IsIndex key row index) (bytes : List ℕ) (place : ℕ) (has : key_in key row slot ≡ Some bytes) where
        -- its rank is there
        pub no_gap : IsGap key row index (rank bytes slot) place → ⊥
        no_gap gap =
            let once = listed_row (key_in key row) index indexed.listed slot bytes has in
            let at = place_count slot index (omega (arith, once)) in
            let C : ℕ → Ordering = λ s. slice_cmp nat_cmp (rank_in key row s) (rank bytes slot) in
            let D : Option (List ℕ) → Ordering = λ o. slice_cmp nat_cmp (rank (unwrap_or o []) slot) (rank bytes slot) in
            let even : C (get_or index at.0 0) ≡ Equal = ap C (at.2 0) ∙ ap D has ∙ tied_itself nat_list_cmp_total (rank bytes slot) in
            elim (cases_lt at.0 place) [
              | inl lt ↦ (let low : C (get_or index at.0 0) ≡ Less = gap.before at.0 0 lt in let bad : Less ≡ Equal = sym low ∙ even in cc)
              | inr ge ↦ (let high : C (get_or index at.0 0) ≡ Greater = gap.after at.0 0 ge at.1 in let bad : Greater ≡ Equal = sym high ∙ even in cc)
            ]

        pub taken_at : IsPlace key row index (rank bytes slot) place → IsIndex key (all_but slot row) (remove index place)
        taken_at stands =
            let r = rank_in key row in
            let t = get_or index place 0 in
            let a = take place index in
            let b = drop (suc place) index in
            let here : t ≡ slot = rank_slot (unwrap_or (key_in key row t) []) bytes t slot stands.same in
            let whole : index ≡ a ++ slot ∷ b = around index place slot stands.in_range here in
            let L : List ℕ → Type 0 = Lists (key_in key row) in
            let lists = subst L whole indexed.listed in
            let ranks : map (rank_in key (all_but slot row)) (a ++ b) ≡ map r a ++ map r b =
            map_same r (rank_in key (all_but slot row)) (a ++ b) (λ s h. rank_other s (others_differ (key_in key row) a slot b bytes lists has s h)) ∙ map-append r a b in
            let up : IsAscending (map r a ++ r slot ∷ map r b) = subst IsAscending (ap (map r) whole ∙ map-append r a (slot ∷ b)) indexed.ascending in
            record {
              listed = lists_taken (key_in key row) (key_in key (all_but slot row)) a slot b bytes lists has but_slot but_other;
              ascending = subst IsAscending (sym ranks) (ascending_taken (map r a) (r slot) (map r b) up);
            }
