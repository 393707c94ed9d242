-- The indexes over the rows in slots: what an index depends on, how long it is, and what a change of a slot is to the rows.
use Rattle.std.proofs.Common.{◌≡◌, ◌≢◌, ◌<◌, ◌≤◌, ◌+◌, ℕ, suc, Bool, true, cond, eqb, List, [], ◌∷◌, ◌++◌, length, unwrap_or, Option, Some, None, is_some, option_and_then, inl, inr, refl, sym, ◌∙◌, ap, subst, arith}
use Rattle.std.proofs.lemmas.Bool.Decides.{nat_tests}
use Rattle.sso_base.specs.Words.{Word}
use Rattle.sso_base.proofs.RowLaws.{bool_cases, option_cases}
use Rattle.held_rows.specs.declared.row.By.{By}
use Rattle.held_rows.specs.declared.row.By.TheVariants.{Name, Group, OtherGroup}
use Rattle.held_rows.specs.declared.stored.Issued.{Issued}
use Rattle.held_rows.specs.declared.stored.Stored.{Stored}
use Rattle.held_rows.specs.Counts.{count, Lists}
use Rattle.held_rows.specs.Index.{issued_row, issued_serial, row_at, serial_at, all_but, rank, key_in, rank_in, IsAscending, IsIndex, IsStored, stored_rows}
use Rattle.held_rows.specs.SlotList.{SlotList, get, Changes}
use Rattle.held_rows.proofs.Counts.{one, same_or_other, split_count, count-middle, length-middle, map_same, length-rows, row_listed, listed_row}

-- where a value stands, a row does
pub some_row : {R : Type 0} (o : Option (Issued R)) → is_some o ≡ true → is_some (issued_row o) ≡ true
some_row None h = h
some_row (Some issued) h = refl

-- ---- an index

module _ {R : Type 0} (key : R → Option (List ℕ)) where
  -- it depends only on the bytes that the rows are found by
  pub index_same : (f g : ℕ → Option R) (index : List ℕ) → ((t : ℕ) → key_in key g t ≡ key_in key f t) → IsIndex key f index → IsIndex key g index
  index_same f g index same i =
      let C : Option (List ℕ) → ℕ = λ o. cond (is_some o) 1 0 in
      record {
        listed = λ t. i.listed t ∙ sym (ap C (same t));
        ascending = subst IsAscending (sym (map_same (rank_in key f) (rank_in key g) index (λ t h. ap (λ (o : Option (List ℕ)). rank (unwrap_or o []) t) (same t)))) i.ascending;
      }

-- ---- how long it is

shorter : (xs ys : List ℕ) → ((t : ℕ) → count t xs ≤ count t ys) → length xs ≤ length ys
shorter [] ys low = omega arith
shorter (x ∷ xs) ys low =
    let here : one x x + count x xs ≤ count x ys = low x in
    let there : 0 < count x ys = elim (same_or_other x x) [ inl k ↦ (let on = k.1 in omega (arith, on, here)) | inr k ↦ absurd (k.0 refl) ] in
    let parts = split_count x ys there in
    let long : length ys ≡ suc (length (parts.0 ++ parts.1)) = ap length parts.2 ∙ length-middle parts.0 x parts.1 in
    let rest : length xs ≤ length (parts.0 ++ parts.1) = shorter xs (parts.0 ++ parts.1) (λ t.
    let mid = count-middle t parts.0 x parts.1 in
    let all : count t ys ≡ count t (parts.0 ++ x ∷ parts.1) = ap (count t) parts.2 in
    let both : one t x + count t xs ≤ count t ys = low t in
    omega (arith, mid, all, both)) in
    omega (arith, long, rest)

-- an index has no more slots than rows have
pub index_short : {R : Type 0} (key : R → Option (List ℕ)) (f : ℕ → Option R) (index by_issue : List ℕ) → Lists f by_issue → Lists (key_in key f) index → length index ≤ length by_issue
index_short {R} key f index by_issue lists listed = shorter index by_issue low
  where
    few : (o : Option (List ℕ)) → cond (is_some o) 1 0 ≤ 1
    few None = omega arith
    few (Some bytes) = omega arith

    low : (t : ℕ) → count t index ≤ count t by_issue
    low t =
        let F : Option R → ℕ = λ o. cond (is_some (option_and_then key o)) 1 0 in
        elim (option_cases (f t)) [
          | inl none ↦ (let no : count t index ≡ 0 = listed t ∙ ap F none in omega (arith, no))
          | inr some ↦
              (let once = listed_row f by_issue lists t some.0 some.1 in
              let at = listed t in
              let most = few (key_in key f t) in
              omega (arith, once, at, most))
        ]

-- ---- a slot left out

but_here : {R : Type 0} (f : ℕ → Option R) (slot t : ℕ) → t ≡ slot → all_but slot f t ≡ None
but_here {R} f slot t same =
    let F : Bool → Option R = λ b. cond b None (f t) in
    elim (bool_cases (eqb t slot)) [
      | inl e ↦ ap F e
      | inr e ↦ (let bad : ⊥ = grind (arith, nat_tests) in absurd bad)
    ]

but_other : {R : Type 0} (f : ℕ → Option R) (slot t : ℕ) → t ≢ slot → all_but slot f t ≡ f t
but_other {R} f slot t away =
    let F : Bool → Option R = λ b. cond b None (f t) in
    elim (bool_cases (eqb t slot)) [
      | inl e ↦ (let same : t ≡ slot = grind (arith, nat_tests) in absurd (away same))
      | inr e ↦ ap F e
    ]

-- the row was taken out
pub but_taken : {R : Type 0} (f g : ℕ → Option R) (slot : ℕ) → Changes f g slot None → (t : ℕ) → g t ≡ all_but slot f t
but_taken f g slot changes t = elim (same_or_other t slot) [
  | inl same ↦ ap g same.0 ∙ changes.changed ∙ sym (but_here f slot t same.0)
  | inr other ↦ changes.others t other.0 ∙ sym (but_other f slot t other.0)
]

module _ {R : Type 0} (old new : SlotList (Issued R)) (slot : ℕ) (value : Option (Issued R)) (changes : Changes (get old) (get new) slot value) where
  -- what a change of a slot is to the rows, and to the numbers
  pub row_changes : Changes (row_at old) (row_at new) slot (issued_row value)
  row_changes = record {
    changed = ap issued_row changes.changed;
    others = λ t away. ap issued_row (changes.others t away);
  }

  pub other_serials : (t : ℕ) → t ≢ slot → serial_at new t ≡ serial_at old t
  other_serials t away = ap issued_serial (changes.others t away)

-- ---- all together

module _ {R : Type 0} (name : R → Word) (key : By → R → Option (List ℕ)) (begun : R → ℕ) (IsSound : R → Type 0) (s : Stored R) (stored : IsStored name key begun IsSound s) where
  pub as_many : length (stored_rows s) ≡ length s.by_issue.items
  as_many = length-rows (row_at s.slots) s.by_issue.items (row_listed (row_at s.slots) s.by_issue.items stored.issued)

  pub names_short : length s.by_name.items ≤ length s.by_issue.items
  names_short = index_short (key Name) (row_at s.slots) s.by_name.items s.by_issue.items stored.issued stored.names.listed

  pub groups_short : length s.by_group.items ≤ length s.by_issue.items
  groups_short = index_short (key Group) (row_at s.slots) s.by_group.items s.by_issue.items stored.issued stored.groups.listed

  pub other_groups_short : length s.by_other.items ≤ length s.by_issue.items
  other_groups_short = index_short (key OtherGroup) (row_at s.slots) s.by_other.items s.by_issue.items stored.issued stored.other_groups.listed
