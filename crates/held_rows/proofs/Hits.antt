-- Which slots have a row that passes: in order of issue, and in an index, from the start of its bytes on.
use Rattle.std.proofs.Common.{◌≡◌, ◌<◌, ◌≤◌, ◌+◌, ℕ, suc, Bool, true, false, ◌&&◌, ◌||◌, cond, List, [], ◌∷◌, ◌++◌, filter, take, drop, get_or, length, Option, Some, inl, inr, refl, sym, ◌∙◌, ap, arith}
use Rattle.std.specs.List.{filter_map, cons_option, list_any}
use Rattle.std.specs.Str.{bytes_eq}
use Rattle.std.proofs.lemmas.Bool.{cases_lt}
use Rattle.std.proofs.lemmas.List.{append-nil, length-append, take-append-drop, get_or_default}
use Rattle.std.proofs.lemmas.List.Elements.{filter-append}
use Rattle.std.proofs.lemmas.List.Folds.{list_any-append}
use Rattle.sso_base.proofs.RowLaws.{bool_cases, option_cases}
use Rattle.held_rows.specs.Counts.{count, Lists}
pub use Rattle.held_rows.specs.Index.{hit_of, hit}
use Rattle.held_rows.specs.Index.{key_in, IsIndex, IsStart}
use Rattle.held_rows.proofs.Counts.{same_or_other, count-middle, split_count, place_count, listed_row}
use Rattle.held_rows.proofs.Ends.{none_pass}
use Rattle.held_rows.proofs.HeldLaws.{filter_short}

-- ---- rows, and their slots

module _ {R : Type 0} (p : R → Bool) (f : ℕ → Option R) where
  pub any_hit : (xs : List ℕ) → list_any p (filter_map f xs) ≡ list_any (hit p f) xs
  any_hit [] = refl
  any_hit (x ∷ xs) =
      let again = any_hit xs in
      let F : Option R → Bool = λ o. list_any p (cons_option o (filter_map f xs)) in
      let G : Option R → Bool = λ o. hit_of p o || list_any (hit p f) xs in
      elim (option_cases (f x)) [
        | inl none ↦ ap F none ∙ again ∙ sym (ap G none)
        | inr some ↦ ap F some.1 ∙ ap (λ (b : Bool). p some.0 || b) again ∙ sym (ap G some.1)
      ]

  pub count_hits : (xs : List ℕ) → length (filter p (filter_map f xs)) ≡ length (filter (hit p f) xs)
  count_hits [] = refl
  count_hits (x ∷ xs) =
      let again = count_hits xs in
      let F : Option R → ℕ = λ o. length (filter p (cons_option o (filter_map f xs))) in
      let G : Option R → ℕ = λ o. length (cond (hit_of p o) (x ∷ filter (hit p f) xs) (filter (hit p f) xs)) in
      elim (option_cases (f x)) [
        | inl none ↦ ap F none ∙ again ∙ sym (ap G none)
        | inr some ↦
            (let N : Bool → ℕ = λ b. length (cond b (some.0 ∷ filter p (filter_map f xs)) (filter p (filter_map f xs))) in
            let H : Bool → ℕ = λ b. length (cond b (x ∷ filter (hit p f) xs) (filter (hit p f) xs)) in
            elim (bool_cases (p some.0)) [
              | inl e ↦ ap F some.1 ∙ ap N e ∙ ap suc again ∙ sym (ap G some.1 ∙ ap H e)
              | inr e ↦ ap F some.1 ∙ ap N e ∙ again ∙ sym (ap G some.1 ∙ ap H e)
            ])
      ]

-- ---- slots among others

module _ (h : ℕ → Bool) where
  pub any_false : (xs : List ℕ) → ((s : ℕ) → h s ≡ false) → list_any h xs ≡ false
  any_false [] misses = refl
  any_false (x ∷ xs) misses = ap (λ (b : Bool). b || list_any h xs) (misses x) ∙ any_false xs misses

  pub any_true : (xs : List ℕ) (s : ℕ) → 0 < count s xs → h s ≡ true → list_any h xs ≡ true
  any_true [] s there e = absurd (omega arith)
  any_true (x ∷ xs) s there e =
      let O : Bool → Bool = λ b. b || list_any h xs in
      elim (same_or_other s x) [
        | inl same ↦ ap O (ap h (sym same.0) ∙ e)
        | inr other ↦
            (let off = other.1 in
            let again = any_true xs s (omega (arith, off)) e in
            let P : Bool → Bool = λ b. h x || b in
            ap P again ∙ elim (bool_cases (h x)) [ inl t ↦ ap (λ (b : Bool). b || true) t | inr t ↦ ap (λ (b : Bool). b || true) t ])
      ]

  pub length_middle : (a : List ℕ) (x : ℕ) (b : List ℕ) → h x ≡ true → length (filter h (a ++ x ∷ b)) ≡ suc (length (filter h (a ++ b)))
  length_middle [] x b e =
      let N : Bool → ℕ = λ t. length (cond t (x ∷ filter h b) (filter h b)) in
      ap N e
  length_middle (y ∷ a) x b e =
      let again = length_middle a x b e in
      let N : Bool → ℕ = λ t. length (cond t (y ∷ filter h (a ++ x ∷ b)) (filter h (a ++ x ∷ b))) in
      let M : Bool → ℕ = λ t. length (cond t (y ∷ filter h (a ++ b)) (filter h (a ++ b))) in
      elim (bool_cases (h y)) [
        | inl t ↦ ap N t ∙ ap suc again ∙ ap suc (sym (ap M t))
        | inr t ↦ ap N t ∙ again ∙ ap suc (sym (ap M t))
      ]

  -- where the slots that pass are as often among others, so many of those pass
  pub count_same : (xs ys : List ℕ) → ((s : ℕ) → h s ≡ true → count s xs ≡ count s ys) → length (filter h xs) ≡ length (filter h ys)
  count_same [] ys same = sym (none_pass ys (λ s e. sym (same s e)))
    where
      none_pass : (ys : List ℕ) → ((s : ℕ) → h s ≡ true → count s ys ≡ 0) → length (filter h ys) ≡ 0
      none_pass [] zeros = refl
      none_pass (y ∷ ys) zeros =
          let N : Bool → ℕ = λ t. length (cond t (y ∷ filter h ys) (filter h ys)) in
          elim (bool_cases (h y)) [
            | inl t ↦
                (let zero_of = zeros y t in
                elim (same_or_other y y) [
                  | inl k ↦ (let on = k.1 in absurd (omega (arith, zero_of, on)))
                  | inr k ↦ absurd (k.0 refl)
                ])
            | inr t ↦ ap N t ∙ none_pass ys (λ s e. (let zero_of = zeros s e in omega (arith, zero_of)))
          ]
  count_same (x ∷ xs) ys same =
      let N : Bool → ℕ = λ t. length (cond t (x ∷ filter h xs) (filter h xs)) in
      elim (bool_cases (h x)) [
        | inl t ↦
            (let as_often = same x t in
            let there : 0 < count x ys = elim (same_or_other x x) [ inl k ↦ (let on = k.1 in omega (arith, as_often, on)) | inr k ↦ absurd (k.0 refl) ] in
            let parts = split_count x ys there in
            let a = parts.0 in
            let b = parts.1 in
            let rest : (s : ℕ) → h s ≡ true → count s xs ≡ count s (a ++ b) = λ s e.
            (let often = same s e in
            let C : List ℕ → ℕ = λ zs. count s zs in
            let whole : count s ys ≡ count s (a ++ x ∷ b) = ap C parts.2 in
            let mid = count-middle s a x b in
            omega (arith, often, whole, mid)) in
            let L : List ℕ → ℕ = λ zs. length (filter h zs) in
            ap N t ∙ ap suc (count_same xs (a ++ b) rest) ∙ sym (ap L parts.2 ∙ length_middle a x b t))
        | inr t ↦
            (let rest : (s : ℕ) → h s ≡ true → count s xs ≡ count s ys = λ s e.
            (let often = same s e in
            elim (same_or_other s x) [
              | inl k ↦ (let clash : true ≡ false = sym e ∙ ap h k.0 ∙ t in absurd (cc))
              | inr k ↦ (let off = k.1 in omega (arith, often, off))
            ]) in
            ap N t ∙ count_same xs ys rest)
      ]

-- ---- an index, and the start of its bytes there

module _ {R : Type 0} (key : R → Option (List ℕ)) (f : ℕ → Option R) (by_issue index bytes : List ℕ) (issued : Lists f by_issue) (indexed : IsIndex key f index) where
  -- where the slot at a place is seen to have other bytes, what stands there has
  pub other_at : (j slot : ℕ) (seen : Bool) → slot ≡ get_or index j slot → (key_in key f slot ≡ Some bytes → seen ≡ true) → seen ≡ false → j < length index → (d : ℕ) → key_in key f (get_or index j d) ≡ Some bytes → ⊥
  other_at j slot seen stands sees other lt d is =
      let here : key_in key f slot ≡ Some bytes = ap (key_in key f) (stands ∙ get_or_default index j slot d lt) ∙ is in
      let clash : true ≡ false = sym (sees here) ∙ other in
      cc

  -- a slot with these bytes stands in the index
  pub keyed_place : (s : ℕ) → key_in key f s ≡ Some bytes → (k : ℕ) × (k < length index) × ((d : ℕ) → get_or index k d ≡ s)
  keyed_place s is =
      let once = listed_row (key_in key f) index indexed.listed s bytes is in
      place_count s index (omega (arith, once))

  module _ (place : ℕ) (start : IsStart key f index bytes place) where
    -- from a place on that has other bytes, none has these
    pub none_from : (j : ℕ) → place ≤ j → (j < length index → (d : ℕ) → key_in key f (get_or index j d) ≡ Some bytes → ⊥) → (k d : ℕ) → j ≤ k → k < length index → key_in key f (get_or index k d) ≡ Some bytes → ⊥
    none_from j from other k d le lt is = other (omega arith) d (start.run j k d from le lt is)

    -- where neither those before the start nor those behind have them, no slot has
    pub absent : (place < length index → (d : ℕ) → key_in key f (get_or index place d) ≡ Some bytes → ⊥) → (s : ℕ) → key_in key f s ≡ Some bytes → ⊥
    absent other s is =
        let stands = keyed_place s is in
        let there : key_in key f (get_or index stands.0 0) ≡ Some bytes = ap (key_in key f) (stands.2 0) ∙ is in
        elim (cases_lt stands.0 place) [
          | inl lt ↦ start.before stands.0 0 lt there
          | inr ge ↦ none_from place (omega arith) other stands.0 0 ge stands.1 there
        ]

  -- ---- a test that only rows with these bytes pass

  module _ (p : R → Bool) (found : (row : R) → p row ≡ true → key row ≡ Some bytes) where
    pub hit_found : (s : ℕ) → hit p f s ≡ true → key_in key f s ≡ Some bytes
    hit_found s e =
        let H : Option R → Bool = λ o. hit_of p o in
        let K : Option R → Option (List ℕ) = λ o. Rattle.std.specs.Option.option_and_then key o in
        elim (option_cases (f s)) [
          | inl none ↦ (let clash : true ≡ false = sym e ∙ ap H none in absurd (cc))
          | inr some ↦ ap K some.1 ∙ found some.0 (sym (ap H some.1) ∙ e)
        ]

    -- as many pass in the index as in order of issue
    pub hits_same : length (filter (hit p f) by_issue) ≡ length (filter (hit p f) index)
    hits_same = count_same (hit p f) by_issue index often
      where
        often : (s : ℕ) → hit p f s ≡ true → count s by_issue ≡ count s index
        often s e =
            let H : Option R → Bool = λ o. hit_of p o in
            elim (option_cases (f s)) [
              | inl none ↦ (let clash : true ≡ false = sym e ∙ ap H none in absurd (cc))
              | inr some ↦ listed_row f by_issue issued s some.0 some.1 ∙ sym (listed_row (key_in key f) index indexed.listed s bytes (hit_found s e))
            ]

    -- no slot passes, where none in the index does
    pub no_hit : list_any (hit p f) index ≡ false → (s : ℕ) → hit p f s ≡ false
    no_hit none s =
        elim (bool_cases (hit p f s)) [
          | inl e ↦
              (let once = listed_row (key_in key f) index indexed.listed s bytes (hit_found s e) in
              let clash : true ≡ false = sym (any_true (hit p f) index s (omega (arith, once)) e) ∙ none in
              absurd (cc))
          | inr e ↦ e
        ]

    -- no more pass among the first than there are rows
    pub few_hits : (n : ℕ) → length (filter (hit p f) (take n index)) ≤ length (filter_map f by_issue)
    few_hits n =
        let h : ℕ → Bool = hit p f in
        let L : List ℕ → ℕ = λ xs. length (filter h xs) in
        let parts : length (filter h (take n index)) + length (filter h (drop n index)) ≡ length (filter h index) =
        sym (length-append (filter h (take n index)) (filter h (drop n index))) ∙ sym (ap length (filter-append h (take n index) (drop n index))) ∙ ap L (take-append-drop n index) in
        let all = hits_same in
        let rows = count_hits p f by_issue in
        let short = filter_short p (filter_map f by_issue) in
        omega (arith, parts, all, rows, short)

    module _ (place : ℕ) (start : IsStart key f index bytes place) where
      -- those before the start do not pass
      pub before_start : (n : ℕ) → n ≤ place → list_any (hit p f) (take n index) ≡ false
      before_start n le = front n index le (λ k d lt. start.before k d (omega arith))
        where
          front : (n : ℕ) (xs : List ℕ) → n ≤ place → ((k d : ℕ) → k < n → key_in key f (get_or xs k d) ≡ Some bytes → ⊥) → list_any (hit p f) (take n xs) ≡ false
          front ℕ.zero xs le other = refl
          front (suc n) [] le other = refl
          front (suc n) (x ∷ xs) le other =
              let O : Bool → Bool = λ b. b || list_any (hit p f) (take n xs) in
              let misses : hit p f x ≡ false = elim (bool_cases (hit p f x)) [ inl e ↦ absurd (other 0 0 (omega arith) (hit_found x e)) | inr e ↦ e ] in
              ap O misses ∙ front n xs (omega arith) (λ k d lt. other (suc k) d (omega arith))

      -- those from a place on do not pass, where that has other bytes
      rest_misses : (j : ℕ) → place ≤ j → (j < length index → (d : ℕ) → key_in key f (get_or index j d) ≡ Some bytes → ⊥) → list_any (hit p f) (drop j index) ≡ false
      rest_misses j from other = back j index (λ k d le lt. elim (bool_cases (hit p f (get_or index k d))) [
        | inl e ↦ absurd (none_from place start j from other k d le lt (hit_found (get_or index k d) e))
        | inr e ↦ e
      ])
        where
          back : (j : ℕ) (xs : List ℕ) → ((k d : ℕ) → j ≤ k → k < length xs → hit p f (get_or xs k d) ≡ false) → list_any (hit p f) (drop j xs) ≡ false
          back ℕ.zero [] misses = refl
          back ℕ.zero (x ∷ xs) misses =
              let O : Bool → Bool = λ b. b || list_any (hit p f) xs in
              ap O (misses 0 0 (omega arith) (omega arith)) ∙ back 0 xs (λ k d le lt. misses (suc k) d (omega arith) (omega arith))
          back (suc j) [] misses = refl
          back (suc j) (x ∷ xs) misses = back j xs (λ k d le lt. misses (suc k) d (omega arith) (omega arith))

      -- where none so far passes, and a place with other bytes or the end is reached, no row passes
      pub none_passes : (j : ℕ) → place ≤ j → (j < length index → (d : ℕ) → key_in key f (get_or index j d) ≡ Some bytes → ⊥) → list_any (hit p f) (take j index) ≡ false → list_any p (filter_map f by_issue) ≡ false
      none_passes j from other so_far =
          let h : ℕ → Bool = hit p f in
          let A : List ℕ → Bool = λ xs. list_any h xs in
          let whole : list_any h index ≡ false =
          sym (ap A (take-append-drop j index)) ∙ list_any-append h (take j index) (drop j index) ∙ ap (λ (b : Bool). b || list_any h (drop j index)) so_far ∙ rest_misses j from other in
          any_hit p f by_issue ∙ any_false h by_issue (no_hit whole)

      -- then also all that pass were counted
      pub all_counted : (j : ℕ) → place ≤ j → (j < length index → (d : ℕ) → key_in key f (get_or index j d) ≡ Some bytes → ⊥) → length (filter (hit p f) (take j index)) ≡ length (filter p (filter_map f by_issue))
      all_counted j from other =
          let h : ℕ → Bool = hit p f in
          let L : List ℕ → ℕ = λ xs. length (filter h xs) in
          let E : List ℕ → ℕ = λ xs. length (filter h (take j index) ++ xs) in
          let whole : length (filter h index) ≡ length (filter h (take j index)) =
          sym (ap L (take-append-drop j index)) ∙ ap length (filter-append h (take j index) (drop j index)) ∙ ap E (none_pass h (drop j index) (rest_misses j from other)) ∙ ap length (append-nil (filter h (take j index))) in
          sym whole ∙ sym hits_same ∙ sym (count_hits p f by_issue)

  -- a slot whose row passes makes some row pass
  pub some_passes : (p : R → Bool) (slot : ℕ) (row : R) → f slot ≡ Some row → p row ≡ true → list_any p (filter_map f by_issue) ≡ true
  some_passes p slot row is e =
      let H : Option R → Bool = λ o. hit_of p o in
      let once = listed_row f by_issue issued slot row is in
      any_hit p f by_issue ∙ any_true (hit p f) by_issue slot (omega (arith, once)) (ap H is ∙ e)

-- ---- rows that live

module _ {R : Type 0} (p q : R → Bool) where
  pub any_of_both : (rows : List R) → list_any q (filter p rows) ≡ list_any (λ row. p row && q row) rows
  any_of_both [] = refl
  any_of_both (x ∷ rows) =
      let again = any_of_both rows in
      let F : Bool → Bool = λ b. list_any q (cond b (x ∷ filter p rows) (filter p rows)) in
      let G : Bool → Bool = λ b. (b && q x) || list_any (λ (row : R). p row && q row) rows in
      elim (bool_cases (p x)) [
        | inl e ↦ ap F e ∙ ap (λ (b : Bool). q x || b) again ∙ sym (ap G e)
        | inr e ↦ ap F e ∙ again ∙ sym (ap G e)
      ]

  pub both_filtered : (rows : List R) → filter q (filter p rows) ≡ filter (λ row. p row && q row) rows
  both_filtered [] = refl
  both_filtered (x ∷ rows) =
      let again = both_filtered rows in
      let r : R → Bool = λ row. p row && q row in
      let F : Bool → List R = λ b. filter q (cond b (x ∷ filter p rows) (filter p rows)) in
      let G : Bool → List R = λ b. cond (b && q x) (x ∷ filter r rows) (filter r rows) in
      let Q : List R → List R = λ xs. cond (q x) (x ∷ xs) xs in
      elim (bool_cases (p x)) [
        | inl e ↦ ap F e ∙ ap Q again ∙ sym (ap G e)
        | inr e ↦ ap F e ∙ again ∙ sym (ap G e)
      ]
