-- How many rows have a place, and that putting a row and dropping rows adds none but the row that is put.
use Rattle.std.proofs.Common.{◌≡◌, ℕ, ◌+◌, ◌<◌, ◌≤◌, ◌==◌, Bool, true, false, cond, List, [], ◌∷◌, ◌++◌, filter_map, Option, Some, None, refl, sym, ◌∙◌, ap, subst, inl, inr, arith}
use Rattle.std.specs.Str.{bytes_eq}
use Rattle.std.specs.List.{cons_option}
use Rattle.std.proofs.lemmas.Bool.Decides.{eqb_tells}
use Rattle.sso_base.specs.Words.{Word}
use Rattle.sso_base.specs.Rows.{without, put, row_of}
use Rattle.sso_base.proofs.RowLaws.{bool_cases}
use Rattle.rp_answer.proofs.KeptNames.{some_same}

abbrev pub one_if : Bool → ℕ
one_if true = 1
one_if false = 0

pub one_if_same : (m n : ℕ) → m ≡ n → one_if (m == n) ≡ 1
one_if_same m n is =
    elim (eqb_tells m n) [
      | inl e ↦ ap one_if e.0
      | inr e ↦ absurd (e.1 is)
    ]

pub one_if_other : (m n : ℕ) → (m ≡ n → ⊥) → one_if (m == n) ≡ 0
one_if_other m n not_is =
    elim (eqb_tells m n) [
      | inl e ↦ absurd (not_is e.1)
      | inr e ↦ ap one_if e.0
    ]

-- how many rows have the place
abbrev pub count_by : {R : Type 0} → (R → ℕ) → ℕ → List R → ℕ
count_by place n [] = 0
count_by place n (row ∷ rows) = one_if (place row == n) + count_by place n rows

abbrev pub count_some : {R : Type 0} → (R → ℕ) → ℕ → Option R → ℕ
count_some place n None = 0
count_some place n (Some row) = one_if (place row == n)

-- ---- a row is put

count_append : {R : Type 0} (place : R → ℕ) (n : ℕ) (xs ys : List R) → count_by place n (xs ++ ys) ≡ count_by place n xs + count_by place n ys
count_append place n [] ys = omega arith
count_append place n (x ∷ xs) ys =
    let again : count_by place n (xs ++ ys) ≡ count_by place n xs + count_by place n ys = count_append place n xs ys in
    omega (arith, again)

count_without : {R : Type 0} (name : R → Word) (place : R → ℕ) (n : ℕ) (w : Word) (rows : List R) → count_by place n (without name w rows) ≤ count_by place n rows
count_without name place n w [] = omega arith
count_without {R} name place n w (r ∷ rs) =
    let again : count_by place n (without name w rs) ≤ count_by place n rs = count_without name place n w rs in
    let F : Bool → Type 0 = λ b. count_by place n (cond b (without name w rs) (r ∷ without name w rs)) ≤ one_if (place r == n) + count_by place n rs in
    elim (bool_cases (bytes_eq (name r) w)) [
      | inl e ↦ subst F (sym e) (omega (arith, again))
      | inr e ↦ subst F (sym e) (omega (arith, again))
    ]

pub count_put : {R : Type 0} (name : R → Word) (place : R → ℕ) (n : ℕ) (m : Option R) (rows : List R) → count_by place n (put name m rows) ≤ count_by place n rows + count_some place n m
count_put name place n None rows = omega arith
count_put name place n (Some r) rows =
    let split : count_by place n (without name (name r) rows ++ r ∷ []) ≡ count_by place n (without name (name r) rows) + (one_if (place r == n) + 0) =
    count_append place n (without name (name r) rows) (r ∷ []) in
    let fewer : count_by place n (without name (name r) rows) ≤ count_by place n rows = count_without name place n (name r) rows in
    omega (arith, split, fewer)

-- ---- rows are dropped, the others stay as they are

abbrev pub Unchanged : {R : Type 0} → (R → Option R) → Type 0
Unchanged {R} kept = (row after : R) → kept row ≡ Some after → after ≡ row

count_cons : {R : Type 0} (place : R → ℕ) (n : ℕ) (o : Option R) (rows : List R) → count_by place n (cons_option o rows) ≡ count_some place n o + count_by place n rows
count_cons place n None rows = omega arith
count_cons place n (Some r) rows = refl

count_one : {R : Type 0} (place : R → ℕ) (n : ℕ) (kept : R → Option R) → Unchanged kept → (row : R) (left : Option R) → kept row ≡ left → count_some place n left ≤ one_if (place row == n)
count_one place n kept same row None e = omega arith
count_one {R} place n kept same row (Some after) e =
    let C : R → Type 0 = λ x. one_if (place x == n) ≤ one_if (place row == n) in
    subst C (sym (same row after e)) (omega arith)

pub count_kept : {R : Type 0} (place : R → ℕ) (n : ℕ) (kept : R → Option R) → Unchanged kept → (rows : List R) → count_by place n (filter_map kept rows) ≤ count_by place n rows
count_kept place n kept same [] = omega arith
count_kept place n kept same (r ∷ rs) =
    let one : count_some place n (kept r) ≤ one_if (place r == n) = count_one place n kept same r (kept r) refl in
    let again : count_by place n (filter_map kept rs) ≤ count_by place n rs = count_kept place n kept same rs in
    let split : count_by place n (cons_option (kept r) (filter_map kept rs)) ≡ count_some place n (kept r) + count_by place n (filter_map kept rs) =
    count_cons place n (kept r) (filter_map kept rs) in
    omega (arith, split, one, again)

-- where a row of the place is dropped, fewer are left
pub count_dropped : {R : Type 0} (name : R → Word) (place : R → ℕ) (n : ℕ) (kept : R → Option R) → Unchanged kept → (w : Word) (rows : List R) (row : R) → row_of name w rows ≡ Some row
    → kept row ≡ None → place row ≡ n → count_by place n (filter_map kept rows) < count_by place n rows
count_dropped name place n kept same w [] row found gone at = cc
count_dropped {R} name place n kept same w (r ∷ rs) row found gone at =
    let F : Bool → Option R = λ b. cond b (Some r) (row_of name w rs) in
    let C : Option R → ℕ = λ o. count_some place n o in
    let split : count_by place n (cons_option (kept r) (filter_map kept rs)) ≡ count_some place n (kept r) + count_by place n (filter_map kept rs) =
    count_cons place n (kept r) (filter_map kept rs) in
    elim (bool_cases (bytes_eq (name r) w)) [
      | inl e ↦
          (let is : r ≡ row = some_same r row (sym (ap F e) ∙ found) in
          let none : count_some place n (kept r) ≡ 0 = ap C (ap kept is ∙ gone) in
          let one : one_if (place r == n) ≡ 1 = one_if_same (place r) n (ap place is ∙ at) in
          let rest : count_by place n (filter_map kept rs) ≤ count_by place n rs = count_kept place n kept same rs in
          omega (arith, split, none, one, rest))
      | inr e ↦
          (let one : count_some place n (kept r) ≤ one_if (place r == n) = count_one place n kept same r (kept r) refl in
          let again : count_by place n (filter_map kept rs) < count_by place n rs = count_dropped name place n kept same w rs row (sym (ap F e) ∙ found) gone at in
          omega (arith, split, one, again))
    ]
