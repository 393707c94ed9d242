-- Where the first row lives, all do; a row among others is taken out, by what passes.
use Rattle.std.proofs.Common.{◌≡◌, ◌≤◌, ◌+◌, ℕ, suc, Bool, true, false, not, ◌||◌, cond, nat_lt, List, [], ◌∷◌, ◌++◌, filter, length, Option, Some, None, IsSome, IfSome, slice_get, inl, inr, refl, sym, ◌∙◌, ap, subst, arith}
use Rattle.std.specs.List.{AllByRecursion, filter_map, cons_option, list_any}
use Rattle.std.proofs.lemmas.Bool.Decides.{nat_tests}
use Rattle.sso_base.specs.Rows.{without, row_of, lives, live_rows}
use Rattle.sso_base.proofs.RowLaws.{bool_cases, row_has_name}
use Rattle.sso_base.specs.Stands.{IsDistinct}
use Rattle.held_rows.specs.Held.{IsInOrder, changed}
use Rattle.held_rows.specs.Index.{IsRemoved, IsReplaced}
use Rattle.held_rows.proofs.Counts.{length-middle}
use Rattle.held_rows.proofs.Middles.{without-middle, written-middle}

-- ---- lives

module _ {R : Type 0} (life : ℕ) (begun : R → ℕ) (at : ℕ) where
  later_live : (n : ℕ) (rows : List R) → lives life n at ≡ true → AllByRecursion (λ (row : R). n ≤ begun row) rows → live_rows life begun at rows ≡ rows
  later_live n [] live later = refl
  later_live n (row ∷ rows) live later =
      let from : n ≤ begun row = later.0 in
      let lives_too : nat_lt at (begun row + life) ≡ true = grind (arith, nat_tests) in
      let F : Bool → List R = λ b. cond b (row ∷ live_rows life begun at rows) (live_rows life begun at rows) in
      ap F lives_too ∙ ap (λ (rs : List R). row ∷ rs) (later_live n rows live later.1)

  -- rows whose first one lives
  all_live : (row : R) (rows : List R) → IsInOrder begun (row ∷ rows) → lives life (begun row) at ≡ true → live_rows life begun at (row ∷ rows) ≡ row ∷ rows
  all_live row rows ordered live =
      let F : Bool → List R = λ b. cond b (row ∷ live_rows life begun at rows) (live_rows life begun at rows) in
      ap F live ∙ ap (λ (rs : List R). row ∷ rs) (later_live (begun row) rows live ordered.0)

  pub first_lives : (f : ℕ → Option R) (xs : List ℕ) (slot : ℕ) (row : R) → slice_get xs 0 ≡ Some slot → f slot ≡ Some row → IsInOrder begun (filter_map f xs) → lives life (begun row) at ≡ true → live_rows life begun at (filter_map f xs) ≡ filter_map f xs
  first_lives f [] slot row first is ordered live = (let clash : None ≡ Some slot = first in cc)
  first_lives f (x ∷ xs) slot row first is ordered live =
      let same : x ≡ slot = (let k : Some x ≡ Some slot = first in cc) in
      let here : f x ≡ Some row = ap f same ∙ is in
      let C : Option R → List R = λ o. cons_option o (filter_map f xs) in
      let L : List R → List R = λ rs. live_rows life begun at rs in
      let O : List R → Type 0 = λ rs. IsInOrder begun rs in
      ap L (ap C here) ∙ all_live row (filter_map f xs) (subst O (ap C here) ordered) live ∙ sym (ap C here)

-- ---- a row was taken out

module _ {R : Type 0} (p : R → Bool) where
  pub filter_middle : (a : List R) (row : R) (b : List R) → p row ≡ false → filter p (a ++ row ∷ b) ≡ filter p (a ++ b)
  filter_middle [] row b e =
      let F : Bool → List R = λ t. cond t (row ∷ filter p b) (filter p b) in
      ap F e
  filter_middle (x ∷ a) row b e =
      let F : List R → List R = λ rs. cond (p x) (x ∷ rs) rs in
      ap F (filter_middle a row b e)

  count_middle : (a : List R) (row : R) (b : List R) → p row ≡ true → length (filter p (a ++ row ∷ b)) ≡ suc (length (filter p (a ++ b)))
  count_middle [] row b e =
      let F : Bool → ℕ = λ t. length (cond t (row ∷ filter p b) (filter p b)) in
      ap F e
  count_middle (x ∷ a) row b e =
      let again = count_middle a row b e in
      let F : Bool → ℕ = λ t. length (cond t (x ∷ filter p (a ++ row ∷ b)) (filter p (a ++ row ∷ b))) in
      let G : Bool → ℕ = λ t. length (cond t (x ∷ filter p (a ++ b)) (filter p (a ++ b))) in
      elim (bool_cases (p x)) [
        | inl t ↦ ap F t ∙ ap suc again ∙ ap suc (sym (ap G t))
        | inr t ↦ ap F t ∙ again ∙ ap suc (sym (ap G t))
      ]

  -- what passes is as it was, where the row did not pass
  pub kept_removed : (old new : List R) (row : R) → IsRemoved old new row → p row ≡ false → filter p new ≡ filter p old
  kept_removed old new row removed e =
      let F : List R → List R = λ rs. filter p rs in
      ap F removed.is ∙ sym (ap F removed.was ∙ filter_middle removed.before row removed.behind e)

  -- and one less passes, where it did
  pub count_removed : (old new : List R) (row : R) → IsRemoved old new row → p row ≡ true → length (filter p old) ≡ suc (length (filter p new))
  count_removed old new row removed e =
      let F : List R → ℕ = λ rs. length (filter p rs) in
      ap F removed.was ∙ count_middle removed.before row removed.behind e ∙ sym (ap suc (ap F removed.is))

  -- where none passes
  pub none_pass : (rows : List R) → list_any p rows ≡ false → filter p rows ≡ []
  none_pass [] none = refl
  none_pass (x ∷ rows) none =
      let F : Bool → List R = λ t. cond t (x ∷ filter p rows) (filter p rows) in
      elim (bool_cases (p x)) [
        | inl t ↦ (let clash : true ≡ false = sym (ap (λ (b : Bool). b || list_any p rows) t) ∙ none in cc)
        | inr t ↦ ap F t ∙ none_pass rows (sym (ap (λ (b : Bool). b || list_any p rows) t) ∙ none)
      ]

  pub all_stay : (rows : List R) → list_any p rows ≡ false → filter (λ (row : R). not (p row)) rows ≡ rows
  all_stay [] none = refl
  all_stay (x ∷ rows) none =
      let F : Bool → List R = λ t. cond (not t) (x ∷ filter (λ (row : R). not (p row)) rows) (filter (λ (row : R). not (p row)) rows) in
      elim (bool_cases (p x)) [
        | inl t ↦ (let clash : true ≡ false = sym (ap (λ (b : Bool). b || list_any p rows) t) ∙ none in cc)
        | inr t ↦ ap F t ∙ ap (λ (rs : List R). x ∷ rs) (all_stay rows (sym (ap (λ (b : Bool). b || list_any p rows) t) ∙ none))
      ]

-- ---- how many rows there are then

pub length_removed : {R : Type 0} (old new : List R) (row : R) → IsRemoved old new row → length old ≡ suc (length new)
length_removed old new row removed =
    ap length removed.was ∙ length-middle removed.before row removed.behind ∙ sym (ap suc (ap length removed.is))

pub length_replaced : {R : Type 0} (old new : List R) (row other : R) → IsReplaced old new row other → length new ≡ length old
length_replaced old new row other replaced =
    ap length replaced.is ∙ length-middle replaced.before other replaced.behind ∙ sym (ap length replaced.was ∙ length-middle replaced.before row replaced.behind)

-- ---- a row of a name among others

module _ {R : Type 0} (name : R → List ℕ) where
  -- the row of a name was taken out
  pub removed_is_without : (old new : List R) (w : List ℕ) (o : Option R) → IsDistinct name old → o ≡ row_of name w old → IsSome o → IfSome o (IsRemoved old new) → new ≡ without name w old
  removed_is_without old new w None distinct found some removed = absurd (cc)
  removed_is_without old new w (Some row) distinct found some removed =
      let named : name row ≡ w = row_has_name name w old row (sym found) in
      let D : List R → Type 0 = λ rows. IsDistinct name rows in
      let W : List R → List R = λ rows. without name (name row) rows in
      let V : List ℕ → List R = λ v. without name v old in
      removed.is ∙ sym (ap W removed.was ∙ without-middle name removed.before row removed.behind (subst D removed.was distinct)) ∙ ap V named

  -- or changed
  pub replaced_is_changed : (change : R → R) (old new : List R) (w : List ℕ) (o : Option R) → IsDistinct name old → o ≡ row_of name w old → IsSome o → IfSome o (λ row. IsReplaced old new row (change row)) → new ≡ changed name w change old
  replaced_is_changed change old new w None distinct found some replaced = absurd (cc)
  replaced_is_changed change old new w (Some row) distinct found some replaced =
      let named : name row ≡ w = row_has_name name w old row (sym found) in
      let D : List R → Type 0 = λ rows. IsDistinct name rows in
      let C : List R → List R = λ rows. changed name (name row) change rows in
      let V : List ℕ → List R = λ v. changed name v change old in
      replaced.is ∙ sym (ap C replaced.was ∙ written-middle name change replaced.before row replaced.behind (subst D replaced.was distinct)) ∙ ap V named

-- ---- a row that passes was taken out

pub record PassedOut {R : Type 0} (p : R → Bool) (old new : List R) : Type 0 where
  pub shorter : length old ≡ suc (length new)
  pub others : filter (λ row. not (p row)) new ≡ filter (λ row. not (p row)) old
  pub count : length (filter p old) ≡ suc (length (filter p new))

pub passed_out : {R : Type 0} (p : R → Bool) (o : Option R) (old new : List R) → IsSome o → IfSome o (λ row. p row ≡ true) → IfSome o (IsRemoved old new) → PassedOut p old new
passed_out p None old new some passes removed = absurd (cc)
passed_out p (Some row) old new some passes removed = record {
  shorter = length_removed old new row removed;
  others = kept_removed (λ r. not (p r)) old new row removed (ap not passes);
  count = count_removed p old new row removed passes;
}

-- ---- how many rows there are after a call

pub removed_shorter : {R : Type 0} (o : Option R) (old new : List R) → IsSome o → IfSome o (IsRemoved old new) → length old ≡ suc (length new)
removed_shorter None old new some removed = absurd (cc)
removed_shorter (Some row) old new some removed = length_removed old new row removed

pub replaced_as_long : {R : Type 0} (change : R → R) (o : Option R) (old new : List R) → IsSome o → IfSome o (λ row. IsReplaced old new row (change row)) → length new ≡ length old
replaced_as_long change None old new some replaced = absurd (cc)
replaced_as_long change (Some row) old new some replaced = length_replaced old new row (change row) replaced
