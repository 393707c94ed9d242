-- The rows that pass a test were taken out, in one pass over the slots and each index.
use Rattle.std.proofs.Common.{◌≡◌, ◌<◌, ◌≤◌, ◌+◌, ℕ, Bool, true, false, not, cond, List, [], ◌∷◌, ◌++◌, map, filter, take, drop, get_or, length, Option, Some, None, is_some, option_and_then, unwrap_or, inl, inr, refl, sym, ◌∙◌, ap, subst, arith}
use Rattle.std.specs.List.{AllByRecursion, filter_map, cons_option}
use Rattle.std.specs.Cmp.Lexicographic.{slice_cmp}
use Rattle.std.specs.Ordering.{nat_cmp}
use Rattle.std.specs.declared.cmp.Ordering.TheVariants.{Less}
use Rattle.std.proofs.lemmas.List.{length-append, take-append-drop, take_more, take_all}
use Rattle.std.proofs.lemmas.List.Elements.{filter-append}
use Rattle.sso_base.specs.Words.{Word}
use Rattle.sso_base.proofs.RowLaws.{bool_cases, option_cases}
use Rattle.held_rows.specs.declared.row.By.{By}
use Rattle.held_rows.specs.declared.row.By.TheVariants.{Name, Group, OtherGroup}
use Rattle.held_rows.specs.declared.stored.Issued.{Issued}
use Rattle.held_rows.specs.declared.stored.Stored.{Stored}
use Rattle.held_rows.specs.Counts.{count, Lists}
use Rattle.held_rows.specs.Held.{IsHeld}
use Rattle.held_rows.specs.Index.{issued_row, issued_serial, row_at, serial_at, rows_at, left, hit_of, hit, has_row, IsEmptied, rank, key_in, rank_in, IsAscending, IsIndex, IsRising, IsBounded, IsStored, HasMemoryFor, stored_rows, stored_capacity}
use Rattle.held_rows.specs.SlotList.{SlotList, get, value_count}
use Rattle.held_rows.proofs.Counts.{one, same_or_other, count-append, map_same, row_listed, length-rows}
use Rattle.held_rows.proofs.HeldLaws.{held_filter, filter_short}
use Rattle.held_rows.proofs.Hits.{count_hits}
use Rattle.held_rows.proofs.Parts.{as_many}

-- ---- lists of numbers, of which some are kept

module _ (h : ℕ → Bool) where
  count_kept : (s : ℕ) (xs : List ℕ) → h s ≡ true → count s (filter h xs) ≡ count s xs
  count_kept s [] e = refl
  count_kept s (x ∷ xs) e =
      let again = count_kept s xs e in
      let F : Bool → ℕ = λ b. count s (cond b (x ∷ filter h xs) (filter h xs)) in
      elim (bool_cases (h x)) [
        | inl t ↦ (let here : count s (filter h (x ∷ xs)) ≡ one s x + count s (filter h xs) = ap F t in omega (arith, here, again))
        | inr t ↦ elim (same_or_other s x) [
          | inl same ↦ (let clash : true ≡ false = sym e ∙ ap h same.0 ∙ t in absurd (cc))
          | inr other ↦
              (let here : count s (filter h (x ∷ xs)) ≡ count s (filter h xs) = ap F t in
              let off = other.1 in
              omega (arith, here, off, again))
        ]
      ]

  count_dropped : (s : ℕ) (xs : List ℕ) → h s ≡ false → count s (filter h xs) ≡ 0
  count_dropped s [] e = refl
  count_dropped s (x ∷ xs) e =
      let again = count_dropped s xs e in
      let F : Bool → ℕ = λ b. count s (cond b (x ∷ filter h xs) (filter h xs)) in
      elim (bool_cases (h x)) [
        | inl t ↦ elim (same_or_other s x) [
          | inl same ↦ (let clash : true ≡ false = sym t ∙ ap h (sym same.0) ∙ e in absurd (cc))
          | inr other ↦
              (let here : count s (filter h (x ∷ xs)) ≡ one s x + count s (filter h xs) = ap F t in
              let off = other.1 in
              omega (arith, here, off, again))
        ]
        | inr t ↦ ap F t ∙ again
      ]

  -- what is among those that are kept is kept
  among_kept : (s : ℕ) (xs : List ℕ) → 0 < count s (filter h xs) → h s ≡ true
  among_kept s xs there =
      elim (bool_cases (h s)) [
        | inl e ↦ e
        | inr e ↦ (let none = count_dropped s xs e in absurd (omega (arith, there, none)))
      ]

  all_map_kept : {L : Type 0} (P : L → Type 0) (k : ℕ → L) (xs : List ℕ) → AllByRecursion P (map k xs) → AllByRecursion P (map k (filter h xs))
  all_map_kept P k [] all = tt
  all_map_kept P k (x ∷ xs) all =
      let D : Bool → Type 0 = λ b. AllByRecursion P (map k (cond b (x ∷ filter h xs) (filter h xs))) in
      let again = all_map_kept P k xs all.1 in
      elim (bool_cases (h x)) [
        | inl e ↦ subst D (sym e) (all.0, again)
        | inr e ↦ subst D (sym e) again
      ]

  rising_kept : (k : ℕ → ℕ) (xs : List ℕ) → IsRising (map k xs) → IsRising (map k (filter h xs))
  rising_kept k [] up = tt
  rising_kept k (x ∷ xs) up =
      let D : Bool → Type 0 = λ b. IsRising (map k (cond b (x ∷ filter h xs) (filter h xs))) in
      let again = rising_kept k xs up.1 in
      elim (bool_cases (h x)) [
        | inl e ↦ subst D (sym e) (all_map_kept (λ (later : ℕ). k x ≤ later) k xs up.0, again)
        | inr e ↦ subst D (sym e) again
      ]

  ascending_kept : (k : ℕ → List ℕ) (xs : List ℕ) → IsAscending (map k xs) → IsAscending (map k (filter h xs))
  ascending_kept k [] up = tt
  ascending_kept k (x ∷ xs) up =
      let D : Bool → Type 0 = λ b. IsAscending (map k (cond b (x ∷ filter h xs) (filter h xs))) in
      let again = ascending_kept k xs up.1 in
      elim (bool_cases (h x)) [
        | inl e ↦ subst D (sym e) (all_map_kept (λ (later : List ℕ). slice_cmp nat_cmp (k x) later ≡ Less) k xs up.0, again)
        | inr e ↦ subst D (sym e) again
      ]

  -- ---- lists of the slots that have a thing, where the others have nothing any more

  module _ {E : Type 0} (f g : ℕ → Option E) (kept : (t : ℕ) → h t ≡ true → g t ≡ f t) (gone : (t : ℕ) → h t ≡ false → g t ≡ None) where
    lists_kept : (xs : List ℕ) → Lists f xs → Lists g (filter h xs)
    lists_kept xs lists t =
        let F : Option E → ℕ = λ o. cond (is_some o) 1 0 in
        elim (bool_cases (h t)) [
          | inl e ↦ count_kept t xs e ∙ lists t ∙ sym (ap F (kept t e))
          | inr e ↦ count_dropped t xs e ∙ sym (ap F (gone t e))
        ]

index_kept : {R : Type 0} (key : R → Option (List ℕ)) (h : ℕ → Bool) (f g : ℕ → Option R) → ((t : ℕ) → h t ≡ true → g t ≡ f t) → ((t : ℕ) → h t ≡ false → g t ≡ None)
    → (index : List ℕ) → IsIndex key f index → IsIndex key g (filter h index)
index_kept {R} key h f g kept gone index indexed =
    let K : Option R → Option (List ℕ) = λ o. option_and_then key o in
    let ranks : map (rank_in key g) (filter h index) ≡ map (rank_in key f) (filter h index) =
    map_same (rank_in key f) (rank_in key g) (filter h index) (λ t there. (let K' : Option R → List ℕ = λ o. rank (unwrap_or (option_and_then key o) []) t in ap K' (kept t (among_kept h t index there)))) in
    record {
      listed = lists_kept h (key_in key f) (key_in key g) (λ t e. ap K (kept t e)) (λ t e. ap K (gone t e)) index indexed.listed;
      ascending = subst IsAscending (sym ranks) (ascending_kept h (rank_in key f) index indexed.ascending);
    }

-- ---- what is left in a slot

module _ {R : Type 0} (p : R → Bool) where
  -- a row that is still there did not pass
  left_stays : (o : Option (Issued R)) → is_some (issued_row (left p o)) ≡ true → left p o ≡ o
  left_stays None some = refl
  left_stays (Some issued) some =
      let L : Bool → Option (Issued R) = λ b. cond b None (Some issued) in
      let S : Option (Issued R) → Bool = λ o. is_some (issued_row o) in
      elim (bool_cases (p issued.row)) [
        | inl e ↦ (let clash : false ≡ true = sym (ap S (ap L e)) ∙ some in absurd (cc))
        | inr e ↦ ap L e
      ]

  left_hit : (o : Option (Issued R)) → hit_of p (issued_row o) ≡ true → left p o ≡ None
  left_hit None e = refl
  left_hit (Some issued) e =
      let L : Bool → Option (Issued R) = λ b. cond b None (Some issued) in
      ap L e

  left_miss : (o : Option (Issued R)) → hit_of p (issued_row o) ≡ false → left p o ≡ o
  left_miss None e = refl
  left_miss (Some issued) e =
      let L : Bool → Option (Issued R) = λ b. cond b None (Some issued) in
      ap L e

-- a row that passes is a value
pub hit_value : {R : Type 0} (p : R → Bool) (o : Option (Issued R)) → hit_of p (issued_row o) ≡ true → is_some o ≡ true
hit_value p None e = (let clash : false ≡ true = e in absurd (cc))
hit_value p (Some issued) e = refl

no_row : {R : Type 0} (o : Option R) → is_some o ≡ false → o ≡ None
no_row None e = refl
no_row (Some row) e = cc

no_value : {R : Type 0} (o : Option (Issued R)) → issued_row o ≡ None → o ≡ None
no_value None e = refl
no_value (Some issued) e = cc

-- a slot at a place is not among those before it
unseen_before : {R : Type 0} (f : ℕ → Option R) (by_issue seen : List ℕ) (slot : ℕ) (behind : List ℕ) → Lists f by_issue → by_issue ≡ (seen ++ slot ∷ []) ++ behind → count slot seen ≡ 0
unseen_before {R} f by_issue seen slot behind lists whole =
    let F : Option R → ℕ = λ o. cond (is_some o) 1 0 in
    let C : List ℕ → ℕ = λ xs. count slot xs in
    let all : count slot by_issue ≡ count slot ((seen ++ slot ∷ []) ++ behind) = ap C whole in
    let parts = count-append slot (seen ++ slot ∷ []) behind in
    let before = count-append slot seen (slot ∷ []) in
    let most : count slot by_issue ≤ 1 =
    elim (option_cases (f slot)) [
      | inl none ↦ (let no : count slot by_issue ≡ 0 = lists slot ∙ ap F none in omega (arith, no))
      | inr some ↦ (let once : count slot by_issue ≡ 1 = lists slot ∙ ap F some.1 in omega (arith, once))
    ] in
    elim (same_or_other slot slot) [
      | inl same ↦ (let on = same.1 in omega (arith, all, parts, before, most, on))
      | inr other ↦ absurd (other.0 refl)
    ]

-- ---- the pass over the slots

-- the rows that pass were removed from the slots that were seen, and counted
pub record Emptied {R : Type 0} (p : R → Bool) (old new : SlotList (Issued R)) (seen : List ℕ) (number : ℕ) : Type 0 where
  pub done : (t : ℕ) → 0 < count t seen → get new t ≡ left p (get old t)
  pub rest : (t : ℕ) → count t seen ≡ 0 → get new t ≡ get old t
  pub counted : number ≡ length (filter (hit p (row_at old)) seen)
  pub values : value_count new + number ≡ value_count old
  pub capacity : new.capacity ≡ old.capacity

module _ {R : Type 0} (p : R → Bool) (old : SlotList (Issued R)) where
  pub none_emptied : Emptied p old old [] 0
  none_emptied = record {
    done = λ t there. absurd (omega (arith, there));
    rest = λ t none. refl;
    counted = refl;
    values = omega arith;
    capacity = refl;
  }

  count_last : (t : ℕ) (seen : List ℕ) (slot : ℕ) → count t (seen ++ slot ∷ []) ≡ count t seen + one t slot
  count_last t seen slot = let parts = count-append t seen (slot ∷ []) in omega (arith, parts)

  hits_last : (seen : List ℕ) (slot : ℕ) (b : Bool) → hit p (row_at old) slot ≡ b → length (filter (hit p (row_at old)) (seen ++ slot ∷ [])) ≡ length (filter (hit p (row_at old)) seen) + cond b 1 0
  hits_last seen slot true e =
      let h = hit p (row_at old) in
      let F : Bool → ℕ = λ b. length (cond b (slot ∷ []) []) in
      let parts = ap length (filter-append h seen (slot ∷ [])) ∙ length-append (filter h seen) (filter h (slot ∷ [])) in
      let last : length (filter h (slot ∷ [])) ≡ 1 = ap F e in
      omega (arith, parts, last)
  hits_last seen slot false e =
      let h = hit p (row_at old) in
      let F : Bool → ℕ = λ b. length (cond b (slot ∷ []) []) in
      let parts = ap length (filter-append h seen (slot ∷ [])) ∙ length-append (filter h seen) (filter h (slot ∷ [])) in
      let last : length (filter h (slot ∷ [])) ≡ 0 = ap F e in
      omega (arith, parts, last)

  module _ (mid : SlotList (Issued R)) (seen : List ℕ) (number slot : ℕ) (so_far : Emptied p old mid seen number) (unseen : count slot seen ≡ 0) where
    hit_same : hit p (row_at mid) slot ≡ hit p (row_at old) slot
    hit_same =
        let H : Option (Issued R) → Bool = λ o. hit_of p (issued_row o) in
        ap H (so_far.rest slot unseen)

    -- a row that passes was removed
    hit_emptied : (new : SlotList (Issued R)) (k : ℕ) → IsEmptied p mid new slot k → hit p (row_at mid) slot ≡ true → Emptied p old new (seen ++ slot ∷ []) (number + k)
    hit_emptied new k step e =
        let hits = sym hit_same ∙ e in
        let many = hits_last seen slot true hits in
        let counted = so_far.counted in
        let values = so_far.values in
        let changes = step.changes e in
        let one_less = step.fewer e in
        let is_one = step.one e in
        record {
          done = λ t there. (let parts = count_last t seen slot in
              elim (same_or_other t slot) [
                | inl same ↦
                    (let N : ℕ → Option (Issued R) = get new in
                    let L : ℕ → Option (Issued R) = λ x. left p (get old x) in
                    ap N same.0 ∙ changes.changed ∙ sym (left_hit p (get old slot) hits) ∙ sym (ap L same.0))
                | inr other ↦ (let off = other.1 in changes.others t other.0 ∙ so_far.done t (omega (arith, parts, off, there)))
              ]);
          rest = λ t none. (let parts = count_last t seen slot in
              elim (same_or_other t slot) [
                | inl same ↦ (let on = same.1 in absurd (omega (arith, parts, on, none)))
                | inr other ↦ (let off = other.1 in changes.others t other.0 ∙ so_far.rest t (omega (arith, parts, off, none)))
              ]);
          counted = omega (arith, many, counted, is_one);
          values = omega (arith, one_less, values, is_one);
          capacity = step.capacity ∙ so_far.capacity;
        }

    -- a row that does not pass stays
    miss_emptied : (new : SlotList (Issued R)) (k : ℕ) → IsEmptied p mid new slot k → hit p (row_at mid) slot ≡ false → Emptied p old new (seen ++ slot ∷ []) (number + k)
    miss_emptied new k step e =
        let misses = sym hit_same ∙ e in
        let many = hits_last seen slot false misses in
        let counted = so_far.counted in
        let values = so_far.values in
        let is_none = step.none e in
        let same_slots : new ≡ mid = step.same e in
        let value_same : value_count new ≡ value_count mid = (let V : SlotList (Issued R) → ℕ = λ s. value_count s in ap V same_slots) in
        let reads : (t : ℕ) → get new t ≡ get mid t = λ t. (let G : SlotList (Issued R) → Option (Issued R) = λ s. get s t in ap G same_slots) in
        record {
          done = λ t there. (let parts = count_last t seen slot in
              elim (same_or_other t slot) [
                | inl same ↦
                    (let M : ℕ → Option (Issued R) = get mid in
                    let L : ℕ → Option (Issued R) = λ x. left p (get old x) in
                    reads t ∙ ap M same.0 ∙ so_far.rest slot unseen ∙ sym (left_miss p (get old slot) misses) ∙ sym (ap L same.0))
                | inr other ↦ (let off = other.1 in reads t ∙ so_far.done t (omega (arith, parts, off, there)))
              ]);
          rest = λ t none. (let parts = count_last t seen slot in reads t ∙ so_far.rest t (omega (arith, parts, none)));
          counted = omega (arith, many, counted, is_none);
          values = omega (arith, value_same, values, is_none);
          capacity = step.capacity ∙ so_far.capacity;
        }

    last_emptied : (new : SlotList (Issued R)) (k : ℕ) → IsEmptied p mid new slot k → Emptied p old new (seen ++ slot ∷ []) (number + k)
    last_emptied new k step = elim (bool_cases (hit p (row_at mid) slot)) [ inl e ↦ hit_emptied new k step e | inr e ↦ miss_emptied new k step e ]

  -- the slot at the next place
  pub next_emptied : (mid new : SlotList (Issued R)) (by_issue : List ℕ) (n number slot k : ℕ) → Lists (row_at old) by_issue → n < length by_issue → slot ≡ get_or by_issue n slot
      → Emptied p old mid (take n by_issue) number → IsEmptied p mid new slot k → Emptied p old new (take (n + 1) by_issue) (number + k)
  next_emptied mid new by_issue n number slot k lists low here so_far step =
      let more : take (n + 1) by_issue ≡ take n by_issue ++ slot ∷ [] = take_more by_issue n slot low ∙ ap (λ (x : ℕ). take n by_issue ++ x ∷ []) (sym here) in
      let whole : by_issue ≡ (take n by_issue ++ slot ∷ []) ++ drop (n + 1) by_issue = sym (take-append-drop (n + 1) by_issue) ∙ ap (λ (xs : List ℕ). xs ++ drop (n + 1) by_issue) more in
      let unseen = unseen_before (row_at old) by_issue (take n by_issue) slot (drop (n + 1) by_issue) lists whole in
      let E : List ℕ → Type 0 = λ xs. Emptied p old new xs (number + k) in
      subst E (sym more) (last_emptied mid (take n by_issue) number slot so_far unseen new k step)

  -- no more are counted than there are slots
  pub few_emptied : (mid : SlotList (Issued R)) (by_issue : List ℕ) (n number : ℕ) → Emptied p old mid (take n by_issue) number → number ≤ length by_issue
  few_emptied mid by_issue n number so_far =
      let short = filter_short (hit p (row_at old)) (take n by_issue) in
      let parts : length (take n by_issue) + length (drop n by_issue) ≡ length by_issue = sym (length-append (take n by_issue) (drop n by_issue)) ∙ ap length (take-append-drop n by_issue) in
      let counted = so_far.counted in
      omega (arith, short, parts, counted)

  -- at the end
  pub whole_emptied : (new : SlotList (Issued R)) (by_issue : List ℕ) (n number : ℕ) → length by_issue ≤ n → Emptied p old new (take n by_issue) number → Emptied p old new by_issue number
  whole_emptied new by_issue n number past so_far =
      let E : List ℕ → Type 0 = λ xs. Emptied p old new xs number in
      subst E (take_all n by_issue past) so_far

  pub rows_counted : (new : SlotList (Issued R)) (by_issue : List ℕ) (number : ℕ) → Emptied p old new by_issue number → number ≡ length (filter p (rows_at old by_issue))
  rows_counted new by_issue number emptied = emptied.counted ∙ sym (count_hits p (row_at old) by_issue)

  -- all slots were seen
  pub all_emptied : (new : SlotList (Issued R)) (by_issue : List ℕ) (number : ℕ) → Lists (row_at old) by_issue → Emptied p old new by_issue number → (t : ℕ) → get new t ≡ left p (get old t)
  all_emptied new by_issue number lists emptied t =
      let F : Option R → ℕ = λ o. cond (is_some o) 1 0 in
      let L : Option (Issued R) → Option (Issued R) = λ o. left p o in
      elim (option_cases (row_at old t)) [
        | inl none ↦
            (let absent : count t by_issue ≡ 0 = lists t ∙ ap F none in
            let empty : get old t ≡ None = no_value (get old t) none in
            emptied.rest t absent ∙ empty ∙ sym (ap L empty))
        | inr some ↦ (let once : count t by_issue ≡ 1 = lists t ∙ ap F some.1 in emptied.done t (omega (arith, once)))
      ]

-- ---- the rows

-- those that do not pass are left, in their order
module _ {R : Type 0} (p : R → Bool) (f g : ℕ → Option R) where
  rows_left : (h : ℕ → Bool) → ((t : ℕ) → h t ≡ is_some (g t)) → ((t : ℕ) (row : R) → f t ≡ Some row → p row ≡ true → g t ≡ None) → ((t : ℕ) (row : R) → f t ≡ Some row → p row ≡ false → g t ≡ Some row) → ((t : ℕ) → f t ≡ None → g t ≡ None)
      → (xs : List ℕ) → filter_map g (filter h xs) ≡ filter (λ row. not (p row)) (filter_map f xs)
  rows_left h is out stays none [] = refl
  rows_left h is out stays none (x ∷ xs) =
      let again = rows_left h is out stays none xs in
      let I : Option R → Bool = λ o. is_some o in
      let G : Bool → List R = λ b. filter_map g (cond b (x ∷ filter h xs) (filter h xs)) in
      let C : Option R → List R = λ o. cons_option o (filter_map g (filter h xs)) in
      let D : Option R → List R = λ o. filter (λ row. not (p row)) (cons_option o (filter_map f xs)) in
      elim (option_cases (f x)) [
        | inl absent ↦ ap G (is x ∙ ap I (none x absent)) ∙ again ∙ sym (ap D absent)
        | inr some ↦
            (let N : Bool → List R = λ b. cond (not b) (some.0 ∷ filter (λ row. not (p row)) (filter_map f xs)) (filter (λ row. not (p row)) (filter_map f xs)) in
            elim (bool_cases (p some.0)) [
              | inl e ↦ ap G (is x ∙ ap I (out x some.0 some.1 e)) ∙ again ∙ sym (ap D some.1 ∙ ap N e)
              | inr e ↦
                  (let here : g x ≡ Some some.0 = stays x some.0 some.1 e in
                  ap G (is x ∙ ap I here) ∙ ap C here ∙ ap (λ (rows : List R). some.0 ∷ rows) again ∙ sym (ap D some.1 ∙ ap N e))
            ])
      ]

-- each row passes or does not
both_parts : {R : Type 0} (p : R → Bool) (rows : List R) → length (filter p rows) + length (filter (λ row. not (p row)) rows) ≡ length rows
both_parts p [] = refl
both_parts {R} p (r ∷ rs) =
    let again = both_parts p rs in
    let F : Bool → ℕ = λ b. length (cond b (r ∷ filter p rs) (filter p rs)) in
    let N : Bool → ℕ = λ b. length (cond (not b) (r ∷ filter (λ row. not (p row)) rs) (filter (λ row. not (p row)) rs)) in
    elim (bool_cases (p r)) [
      | inl e ↦ (let one_more = ap F e in let same = ap N e in omega (arith, again, one_more, same))
      | inr e ↦ (let same = ap F e in let one_more = ap N e in omega (arith, again, same, one_more))
    ]

-- ---- all together

module _ {R : Type 0} (name : R → Word) (key : By → R → Option (List ℕ)) (begun : R → ℕ) (IsSound : R → Type 0) (s : Stored R) (stored : IsStored name key begun IsSound s)
    (p : R → Bool) (s' : Stored R) (emptied : (t : ℕ) → get s'.slots t ≡ left p (get s.slots t)) (items : s'.by_issue.items ≡ filter (has_row s'.slots) s.by_issue.items) where
  abbrev f : ℕ → Option R
  f = row_at s.slots

  abbrev g : ℕ → Option R
  g = row_at s'.slots

  abbrev h : ℕ → Bool
  h = has_row s'.slots

  same_value : (t : ℕ) → h t ≡ true → get s'.slots t ≡ get s.slots t
  same_value t e =
      let S : Option (Issued R) → Bool = λ o. is_some (issued_row o) in
      emptied t ∙ left_stays p (get s.slots t) (sym (ap S (emptied t)) ∙ e)

  kept : (t : ℕ) → h t ≡ true → g t ≡ f t
  kept t e = ap issued_row (same_value t e)

  gone : (t : ℕ) → h t ≡ false → g t ≡ None
  gone t e = no_row (g t) e

  out : (t : ℕ) (row : R) → f t ≡ Some row → p row ≡ true → g t ≡ None
  out t row is e =
      let H : Option R → Bool = λ o. hit_of p o in
      ap issued_row (emptied t ∙ left_hit p (get s.slots t) (ap H is ∙ e))

  stays : (t : ℕ) (row : R) → f t ≡ Some row → p row ≡ false → g t ≡ Some row
  stays t row is e =
      let H : Option R → Bool = λ o. hit_of p o in
      ap issued_row (emptied t ∙ left_miss p (get s.slots t) (ap H is ∙ e)) ∙ is

  none : (t : ℕ) → f t ≡ None → g t ≡ None
  none t is =
      let L : Option (Issued R) → Option R = λ o. issued_row (left p o) in
      ap issued_row (emptied t) ∙ ap L (no_value (get s.slots t) is)

  pub rows_swept : stored_rows s' ≡ filter (λ row. not (p row)) (stored_rows s)
  rows_swept = ap (rows_at s'.slots) items ∙ rows_left p f g h (λ t. refl) out stays none s.by_issue.items

  pub stored_swept : (number : ℕ) → number ≡ length (filter p (stored_rows s)) → value_count s'.slots + number ≡ value_count s.slots → s'.next ≡ s.next
      → s'.by_name.items ≡ filter h s.by_name.items → s'.by_group.items ≡ filter h s.by_group.items → s'.by_other.items ≡ filter h s.by_other.items
      → stored_capacity s' ≡ stored_capacity s → HasMemoryFor (stored_capacity s') s' → IsStored name key begun IsSound s'
  stored_swept number is values next names groups others capacity memory =
      let n : ℕ → ℕ = serial_at s.slots in
      let m : ℕ → ℕ = serial_at s'.slots in
      let xs : List ℕ = s.by_issue.items in
      let lists : Lists g (filter h xs) = lists_kept h f g kept gone xs stored.issued in
      let numbers : map m (filter h xs) ≡ map n (filter h xs) = map_same n m (filter h xs) (λ t there. ap issued_serial (same_value t (among_kept h t xs there))) in
      let low : IsBounded n xs s'.next = subst (IsBounded n xs) (sym next) stored.bounded in
      let counted = stored.counted in
      let long = as_many name key begun IsSound s stored in
      let long' : length (stored_rows s') ≡ length (filter h xs) = ap (λ (is : List ℕ). length (rows_at s'.slots is)) items ∙ length-rows g (filter h xs) (row_listed g (filter h xs) lists) in
      let as_long : length s'.by_issue.items ≡ length (filter h xs) = ap length items in
      let fewer : length (stored_rows s') ≡ length (filter (λ row. not (p row)) (stored_rows s)) = ap length rows_swept in
      let parts = both_parts p (stored_rows s) in
      let fits = stored.fits in
      let I : (By → List ℕ → Type 0) = λ by index. IsIndex (key by) g index in
      record {
        issued = subst (Lists g) (sym items) lists;
        rising = subst (λ (is : List ℕ). IsRising (map m is)) (sym items) (subst IsRising (sym numbers) (rising_kept h n xs stored.rising));
        bounded = subst (λ (is : List ℕ). IsBounded m is s'.next) (sym items) (subst (AllByRecursion (λ (k : ℕ). k ≤ s'.next)) (sym numbers) (all_map_kept h (λ (k : ℕ). k ≤ s'.next) n xs low));
        counted = omega (arith, values, is, counted, long, long', as_long, fewer, parts);
        names = subst (I Name) (sym names) (index_kept (key Name) h f g kept gone s.by_name.items stored.names);
        groups = subst (I Group) (sym groups) (index_kept (key Group) h f g kept gone s.by_group.items stored.groups);
        other_groups = subst (I OtherGroup) (sym others) (index_kept (key OtherGroup) h f g kept gone s.by_other.items stored.other_groups);
        held = subst (IsHeld name begun IsSound) (sym rows_swept) (held_filter name begun IsSound (λ row. not (p row)) (stored_rows s) stored.held);
        fits = omega (arith, fits, fewer, parts, capacity);
        memory = memory;
      }
