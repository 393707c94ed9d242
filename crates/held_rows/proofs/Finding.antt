-- The row of a name, by the slots.
use Rattle.std.proofs.Common.{◌≡◌, ℕ, Bool, false, cond, List, [], ◌∷◌, ◌++◌, Option, Some, None, option_and_then, is_some, IsSome, inl, inr, refl, sym, ◌∙◌, ap, subst, arith}
use Rattle.std.specs.List.{filter_map, cons_option}
use Rattle.std.specs.Str.{bytes_eq}
use Rattle.sso_base.specs.Rows.{row_of}
use Rattle.sso_base.specs.Stands.{IsDistinct}
use Rattle.sso_base.proofs.RowLaws.{bool_cases, option_cases, bytes_same}
use Rattle.held_rows.specs.declared.row.By.{By}
use Rattle.held_rows.specs.declared.row.By.TheVariants.{Name}
use Rattle.held_rows.specs.declared.stored.Stored.{Stored}
use Rattle.held_rows.specs.Counts.{Lists}
use Rattle.held_rows.specs.Index.{row_at, key_in, stored_rows, IsStored}
use Rattle.held_rows.proofs.Counts.{split_count, listed_row, rows-middle}
use Rattle.held_rows.proofs.Middles.{row_of-middle}

-- the rows around that of a slot
pub record Around {R : Type 0} (f : ℕ → Option R) (by_issue : List ℕ) (slot : ℕ) (row : R) : Type 0 where
  pub before : List ℕ
  pub behind : List ℕ
  pub whole : by_issue ≡ before ++ slot ∷ behind
  pub rows : filter_map f by_issue ≡ filter_map f before ++ row ∷ filter_map f behind

pub rows_around : {R : Type 0} (f : ℕ → Option R) (by_issue : List ℕ) → Lists f by_issue → (slot : ℕ) (row : R) → f slot ≡ Some row → Around f by_issue slot row
rows_around f by_issue lists slot row is =
    let once = listed_row f by_issue lists slot row is in
    let parts = split_count slot by_issue (omega (arith, once)) in
    record { before = parts.0; behind = parts.1; whole = parts.2; rows = ap (filter_map f) parts.2 ∙ rows-middle f parts.0 slot parts.1 row is }

-- ---- a name that no slot has

none_of : {R : Type 0} (name : R → List ℕ) (w : List ℕ) (f : ℕ → Option R) (slots : List ℕ) → ((slot : ℕ) (row : R) → f slot ≡ Some row → bytes_eq (name row) w ≡ false) → row_of name w (filter_map f slots) ≡ None
none_of name w f [] other = refl
none_of {R} name w f (s ∷ slots) other =
    let again = none_of name w f slots other in
    let C : Option R → Option R = λ o. row_of name w (cons_option o (filter_map f slots)) in
    elim (option_cases (f s)) [
      | inl none ↦ ap C none ∙ again
      | inr some ↦
          (let B : Bool → Option R = λ b. cond b (Some some.0) (row_of name w (filter_map f slots)) in
          ap C some.1 ∙ ap B (other s some.0 some.1) ∙ again)
    ]

module _ {R : Type 0} (name : R → List ℕ) (key : By → R → Option (List ℕ)) (begun : R → ℕ) (IsSound : R → Type 0) (named : (row : R) → key Name row ≡ Some (name row)) (s : Stored R) (stored : IsStored name key begun IsSound s) where
  abbrev f : ℕ → Option R
  f = row_at s.slots

  -- a slot with a name has its row
  pub named_found : (slot : ℕ) (w : List ℕ) → key_in (key Name) f slot ≡ Some w → IsSome (f slot) × (f slot ≡ row_of name w (stored_rows s))
  named_found slot w is =
      let K : Option R → Option (List ℕ) = λ o. option_and_then (key Name) o in
      elim (option_cases (f slot)) [
        | inl none ↦ (let clash : Some w ≡ None = sym is ∙ ap K none in absurd (cc))
        | inr some ↦
            (let told : Some (name some.0) ≡ Some w = sym (named some.0) ∙ sym (ap K some.1) ∙ is in
            let same : name some.0 ≡ w = cc in
            let around = rows_around f s.by_issue.items stored.issued slot some.0 some.1 in
            let D : List R → Type 0 = λ rows. IsDistinct name rows in
            let N : List ℕ → Option R = λ v. row_of name v (stored_rows s) in
            let found : row_of name (name some.0) (stored_rows s) ≡ Some some.0 =
            ap (row_of name (name some.0)) around.rows ∙ row_of-middle name (filter_map f around.before) some.0 (filter_map f around.behind) (subst D around.rows stored.held.distinct) in
            (ap is_some some.1, some.1 ∙ sym found ∙ ap N same))
      ]

  -- where no slot has it, no row has
  pub named_none : (w : List ℕ) → ((slot : ℕ) → key_in (key Name) f slot ≡ Some w → ⊥) → row_of name w (stored_rows s) ≡ None
  named_none w missing =
      none_of name w f s.by_issue.items (λ slot row is.
      elim (bool_cases (bytes_eq (name row) w)) [
        | inr other ↦ other
        | inl alike ↦
            (let K : Option R → Option (List ℕ) = λ o. option_and_then (key Name) o in
            absurd (missing slot (ap K is ∙ named row ∙ ap Some (bytes_same (name row) w alike))))
      ])
