-- Rows that are kept by a rule, and rows that are put.
use Rattle.std.proofs.Common.{◌≡◌, ◌≤◌, ℕ, Bool, true, false, not, nat_le, cond, List, [], ◌∷◌, ◌++◌, filter, filter_map, Option, Some, None, option_and_then, inl, inr, refl, sym, ◌∙◌, ap, arith}
use Rattle.std.specs.Str.{bytes_eq}
use Rattle.std.specs.List.{cons_option, list_all}
use Rattle.std.proofs.lemmas.Bool.{and_parts, and_from, leb-true, le-leb}
use Rattle.sso_base.specs.Words.{Word}
use Rattle.sso_base.specs.Rows.{without, put, row_of, lives, live_rows}
use Rattle.sso_base.proofs.RowLaws.{bool_cases, option_cases, bytes_same, bytes_true, bytes_turn}
use Rattle.sso_base.proofs.Removing.{filter-without}
use Rattle.held_rows.specs.Held.{none_after}

-- ---- words

pub bytes_swap : (v w : Word) → bytes_eq v w ≡ bytes_eq w v
bytes_swap v w =
    elim (bool_cases (bytes_eq v w)) [
      | inl e ↦ e ∙ sym (bytes_true w v (sym (bytes_same v w e)))
      | inr e ↦ e ∙ sym (bytes_turn v w e)
    ]

-- ---- one rule for every row

pub filter_map-same : {R : Type 0} (k l : R → Option R) (rows : List R) → ((r : R) → k r ≡ l r) → filter_map k rows ≡ filter_map l rows
filter_map-same k l [] same = refl
filter_map-same {R} k l (r ∷ rs) same =
    let F : Option R → List R = λ o. cons_option o (filter_map k rs) in
    let G : List R → List R = λ xs. cons_option (l r) xs in
    ap F (same r) ∙ ap G (filter_map-same k l rs same)

pub all_kept : {R : Type 0} (k : R → Option R) (rows : List R) → ((r : R) → k r ≡ Some r) → filter_map k rows ≡ rows
all_kept k [] same = refl
all_kept {R} k (r ∷ rs) same =
    let F : Option R → List R = λ o. cons_option o (filter_map k rs) in
    let push : List R → List R = λ xs. r ∷ xs in
    ap F (same r) ∙ ap push (all_kept k rs same)

-- those that don't pass are dropped
pub kept_by_test : {R : Type 0} (p : R → Bool) (k : R → Option R) (rows : List R) → ((r : R) → k r ≡ cond (p r) (Some r) None) → filter_map k rows ≡ filter p rows
kept_by_test p k [] same = refl
kept_by_test {R} p k (r ∷ rs) same =
    let again : filter_map k rs ≡ filter p rs = kept_by_test p k rs same in
    let F : Option R → List R = λ o. cons_option o (filter_map k rs) in
    let B : Bool → List R = λ b. cons_option (cond b (Some r) None) (filter_map k rs) in
    let C : Bool → List R = λ b. cond b (r ∷ filter p rs) (filter p rs) in
    let push : List R → List R = λ xs. r ∷ xs in
    elim (bool_cases (p r)) [
      | inl e ↦ ap F (same r) ∙ ap B e ∙ ap push again ∙ sym (ap C e)
      | inr e ↦ ap F (same r) ∙ ap B e ∙ again ∙ sym (ap C e)
    ]

drop_turned : {R : Type 0} (b : Bool) (row : R) → cond b None (Some row) ≡ cond (not b) (Some row) None
drop_turned true row = refl
drop_turned false row = refl

-- those of a name are dropped
pub kept_without : {R : Type 0} (name : R → Word) (w : Word) (k : R → Option R) (rows : List R) → ((r : R) → k r ≡ cond (bytes_eq (name r) w) None (Some r)) → filter_map k rows ≡ without name w rows
kept_without {R} name w k rows same =
    let p : R → Bool = λ r. not (bytes_eq (name r) w) in
    kept_by_test p k rows (λ r. same r ∙ drop_turned (bytes_eq (name r) w) r) ∙ filter-without name w rows

-- two rules, one after the other
pub kept_twice : {R : Type 0} (k l : R → Option R) (rows : List R) → filter_map l (filter_map k rows) ≡ filter_map (λ r. option_and_then l (k r)) rows
kept_twice k l [] = refl
kept_twice {R} k l (r ∷ rs) =
    let again = kept_twice k l rs in
    let F : Option R → List R = λ o. filter_map l (cons_option o (filter_map k rs)) in
    let G : Option R → List R = λ o. cons_option (option_and_then l o) (filter_map (λ (x : R). option_and_then l (k x)) rs) in
    let H : Option R → List R → List R = λ o xs. cons_option o xs in
    elim (option_cases (k r)) [
      | inl gone ↦ ap F gone ∙ again ∙ sym (ap G gone)
      | inr left ↦ ap F left.1 ∙ ap (H (l left.0)) again ∙ sym (ap G left.1)
    ]

-- ---- a row that is put

-- where no row has the name, none is left out
pub without_none : {R : Type 0} (name : R → Word) (w : Word) (rows : List R) → row_of name w rows ≡ None → without name w rows ≡ rows
without_none name w [] h = refl
without_none {R} name w (r ∷ rs) h =
    let G : Bool → Option R = λ b. cond b (Some r) (row_of name w rs) in
    let W : Bool → List R = λ b. cond b (without name w rs) (r ∷ without name w rs) in
    let push : List R → List R = λ xs. r ∷ xs in
    elim (bool_cases (bytes_eq (name r) w)) [
      | inl e ↦ (let k : G true ≡ None = sym (ap G e) ∙ h in cc)
      | inr e ↦ ap W e ∙ ap push (without_none name w rs (sym (ap G e) ∙ h))
    ]

pub put_pushes : {R : Type 0} (name : R → Word) (row : R) (rows : List R) → row_of name (name row) rows ≡ None → rows ++ row ∷ [] ≡ put name (Some row) rows
put_pushes {R} name row rows h =
    let P : List R → List R = λ xs. xs ++ row ∷ [] in
    sym (ap P (without_none name (name row) rows h))

-- ---- what holds of every row

module _ {R : Type 0} (good : R → Bool) where
  pub all_filtered : (p : R → Bool) (rows : List R) → list_all good rows ≡ true → list_all good (filter p rows) ≡ true
  all_filtered p [] h = refl
  all_filtered p (r ∷ rs) h =
      let parts = and_parts (good r) (list_all good rs) h in
      let again : list_all good (filter p rs) ≡ true = all_filtered p rs parts.1 in
      let N : Bool → Bool = λ b. list_all good (cond b (r ∷ filter p rs) (filter p rs)) in
      elim (bool_cases (p r)) [
        | inl e ↦ ap N e ∙ and_from (good r) (list_all good (filter p rs)) parts.0 again
        | inr e ↦ ap N e ∙ again
      ]

  pub all_live : (life : ℕ) (begun : R → ℕ) (at : ℕ) (rows : List R) → list_all good rows ≡ true → list_all good (live_rows life begun at rows) ≡ true
  all_live life begun at rows h = all_filtered (λ (r : R). lives life (begun r) at) rows h

  pub all_without : (name : R → Word) (w : Word) (rows : List R) → list_all good rows ≡ true → list_all good (without name w rows) ≡ true
  all_without name w rows h =
      let A : List R → Bool = λ xs. list_all good xs in
      sym (ap A (filter-without name w rows)) ∙ all_filtered (λ (r : R). not (bytes_eq (name r) w)) rows h

  all_pushed : (row : R) (rows : List R) → list_all good rows ≡ true → good row ≡ true → list_all good (rows ++ row ∷ []) ≡ true
  all_pushed row [] h last = and_from (good row) true last refl
  all_pushed row (r ∷ rs) h last =
      let parts = and_parts (good r) (list_all good rs) h in
      and_from (good r) (list_all good (rs ++ row ∷ [])) parts.0 (all_pushed row rs parts.1 last)

  -- the row that is put is good too
  pub all_put : (name : R → Word) (m : Option R) (rows : List R) → list_all good rows ≡ true → ((r : R) → m ≡ Some r → good r ≡ true) → list_all good (put name m rows) ≡ true
  all_put name None rows h last = h
  all_put name (Some row) rows h last = all_pushed row (without name (name row) rows) (all_without name (name row) rows h) (last row refl)

  -- a good row is kept as a good one
  pub all_kept_good : (k : R → Option R) (rows : List R) → ((r s : R) → k r ≡ Some s → good r ≡ true → good s ≡ true) → list_all good rows ≡ true → list_all good (filter_map k rows) ≡ true
  all_kept_good k [] keeps h = refl
  all_kept_good k (r ∷ rs) keeps h =
      let parts = and_parts (good r) (list_all good rs) h in
      let again : list_all good (filter_map k rs) ≡ true = all_kept_good k rs keeps parts.1 in
      let F : Option R → Bool = λ o. list_all good (cons_option o (filter_map k rs)) in
      elim (option_cases (k r)) [
        | inl gone ↦ ap F gone ∙ again
        | inr left ↦ ap F left.1 ∙ and_from (good left.0) (list_all good (filter_map k rs)) (keeps r left.0 left.1 parts.0) again
      ]

  -- every row is good after one more pair
  pub all_good_after : (name : R → Word) (life : ℕ) (begun : R → ℕ) (at : ℕ) (k : R → Option R) (m : Option R) (rows : List R)
      → ((r s : R) → k r ≡ Some s → good r ≡ true → good s ≡ true) → ((r : R) → m ≡ Some r → good r ≡ true)
      → list_all good rows ≡ true → list_all good (put name m (filter_map k (live_rows life begun at rows))) ≡ true
  all_good_after name life begun at k m rows keeps made h =
      all_put name m (filter_map k (live_rows life begun at rows)) (all_kept_good k (live_rows life begun at rows) keeps (all_live life begun at rows h)) made

-- ---- no row begins after the moment

-- nor after a later one
pub none_after_later : {R : Type 0} (begun : R → ℕ) (before at : ℕ) → before ≤ at → (rows : List R) → none_after begun before rows ≡ true → none_after begun at rows ≡ true
none_after_later begun before at order [] h = refl
none_after_later {R} begun before at order (r ∷ rs) h =
    let parts = and_parts (nat_le (begun r) before) (none_after begun before rs) h in
    let low : begun r ≤ before = leb-true (begun r) before parts.0 in
    let first : nat_le (begun r) at ≡ true = le-leb (begun r) at (omega arith) in
    and_from (nat_le (begun r) at) (none_after begun at rs) first (none_after_later begun before at order rs parts.1)
