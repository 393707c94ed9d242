-- The row that a pair makes may be put among the live rows, as the pair leaves them.
use Rattle.std.proofs.Common.{◌≡◌, ◌≤◌, ℕ, suc, Bool, true, false, not, cond, List, [], ◌∷◌, length, filter_map, Option, Some, None, IfSome, inl, inr, refl, sym, ◌∙◌, ap, subst, arith}
use Rattle.std.specs.Str.{bytes_eq}
use Rattle.std.specs.List.{cons_option}
use Rattle.sso_base.specs.Words.{Word}
use Rattle.sso_base.specs.Rows.{without, live_rows}
use Rattle.sso_base.proofs.RowLaws.{bool_cases, option_cases}
use Rattle.sso_base.proofs.Removing.{filter-without}
use Rattle.held_rows.specs.Held.{none_after, most_rows, is_full, MayAddRow}
use Rattle.held_rows.proofs.HeldLaws.{filter_short}
use Rattle.held_rows.proofs.Added.{may_add}

-- ---- what a rule keeps of rows

pub without_short : {R : Type 0} (name : R → Word) (w : Word) (rows : List R) → length (without name w rows) ≤ length rows
without_short {R} name w rows =
    let L : List R → Type 0 = λ x. length x ≤ length rows in
    subst L (filter-without name w rows) (filter_short (λ (row : R). not (bytes_eq (name row) w)) rows)

-- a rule that drops a name keeps at most the rows of other names
pub dropped_short : {R : Type 0} (name : R → Word) (k : R → Option R) (w : Word) → ((r : R) → bytes_eq (name r) w ≡ true → k r ≡ None) → (rows : List R)
    → length (filter_map k rows) ≤ length (without name w rows)
dropped_short name k w drops [] = omega arith
dropped_short {R} name k w drops (r ∷ rs) =
    let low : length (filter_map k rs) ≤ length (without name w rs) = dropped_short name k w drops rs in
    let L : Bool → Type 0 = λ b. length (filter_map k (r ∷ rs)) ≤ length (cond b (without name w rs) (r ∷ without name w rs)) in
    let M : Option R → Type 0 = λ o. length (cons_option o (filter_map k rs)) ≤ length (without name w rs) in
    let N : Option R → Type 0 = λ o. length (cons_option o (filter_map k rs)) ≤ suc (length (without name w rs)) in
    elim (bool_cases (bytes_eq (name r) w)) [
      | inl e ↦ subst L (sym e) (subst M (sym (drops r e)) low)
      | inr e ↦ subst L (sym e) (elim (option_cases (k r)) [ inl gone ↦ subst N (sym gone) (omega arith) | inr left ↦ subst N (sym left.1) (omega arith) ])
    ]

module _ {R : Type 0} (name : R → Word) (k : R → Option R) (names : (r s : R) → k r ≡ Some s → name s ≡ name r) where
  -- no more rows beside those of a name
  pub kept_beside : (w : Word) (rows : List R) → length (without name w (filter_map k rows)) ≤ length (without name w rows)
  kept_beside w [] = omega arith
  kept_beside w (r ∷ rs) =
      let low : length (without name w (filter_map k rs)) ≤ length (without name w rs) = kept_beside w rs in
      let T : Word → Bool = λ x. bytes_eq x w in
      let L : Bool → Type 0 = λ b. length (without name w (filter_map k (r ∷ rs))) ≤ length (cond b (without name w rs) (r ∷ without name w rs)) in
      let M : Option R → Type 0 = λ o. length (without name w (cons_option o (filter_map k rs))) ≤ length (without name w rs) in
      let N : Option R → Type 0 = λ o. length (without name w (cons_option o (filter_map k rs))) ≤ suc (length (without name w rs)) in
      elim (bool_cases (bytes_eq (name r) w)) [
        | inl e ↦ subst L (sym e) (elim (option_cases (k r)) [
          | inl gone ↦ subst M (sym gone) low
          | inr left ↦ (let C : Bool → Type 0 = λ b. length (cond b (without name w (filter_map k rs)) (left.0 ∷ without name w (filter_map k rs))) ≤ length (without name w rs) in
              subst M (sym left.1) (subst C (sym (ap T (names r left.0 left.1) ∙ e)) low))
        ])
        | inr e ↦ subst L (sym e) (elim (option_cases (k r)) [
          | inl gone ↦ subst N (sym gone) (omega arith)
          | inr left ↦ (let C : Bool → Type 0 = λ b. length (cond b (without name w (filter_map k rs)) (left.0 ∷ without name w (filter_map k rs))) ≤ suc (length (without name w rs)) in
              subst N (sym left.1) (subst C (sym (ap T (names r left.0 left.1) ∙ e)) (omega arith)))
        ])
      ]

-- ---- one table, purged at the moment of a pair and left as the pair leaves it

-- the row that is made has room, where it has room among the live rows of the past
pub may_add_reserved : {R : Type 0} (name : R → Word) (life : ℕ) (begun : R → ℕ) (k : R → Option R) (before at : ℕ) → before ≤ at → (held : List R)
    → ((r s : R) → k r ≡ Some s → name s ≡ name r) → ((r s : R) → k r ≡ Some s → begun s ≡ begun r) → none_after begun before held ≡ true → (rows : List R)
    → live_rows life begun before held ≡ live_rows life begun before rows → (row : R) → begun row ≡ at → is_full most_rows name (name row) (live_rows life begun at rows) ≡ false
    → MayAddRow name begun true (filter_map k (live_rows life begun at held)) row
may_add_reserved name life begun k before at order held names same low rows agrees row now room =
    let may = may_add most_rows name life begun k before at order held names same low rows agrees row now room in
    record { room = refl; few = may.few; unnamed = may.unnamed; latest = may.latest }

-- ---- what holds of a row, if there is one

pub if_both : {R : Type 0} (P Q : R → Type 0) (o : Option R) → ((r : R) → o ≡ Some r → P r) → IfSome o Q → IfSome o (λ r. P r × Q r)
if_both P Q None one other = tt
if_both P Q (Some r) one other = (one r refl, other)

pub if_three : {R : Type 0} (P Q S : R → Type 0) (o : Option R) → ((r : R) → o ≡ Some r → P r) → IfSome o (λ r. Q r × S r) → IfSome o (λ r. P r × Q r × S r)
if_three P Q S None one others = tt
if_three P Q S (Some r) one others = (one r refl, others.0, others.1)

pub if_has : {R : Type 0} (P : R → Type 0) (o : Option R) (row : R) → IfSome o P → o ≡ Some row → P row
if_has P None row h is = cc
if_has {R} P (Some r) row h is = let S : Option R → Type 0 = λ o. IfSome o P in subst S is h
