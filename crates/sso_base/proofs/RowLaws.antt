-- The laws of rows: distinct names, one more pair, and what a row that stands literally is.
use Rattle.std.proofs.Common.{◌≡◌, Bool, true, false, cond, List, [], ◌∷◌, ◌++◌, filter_map, Option, Some, None, option_and_then, unwrap_or, ◌⊎◌, inl, inr, refl, sym, ◌∙◌, ap, subst}
use Rattle.std.specs.Str.{bytes_eq}
use Rattle.std.specs.List.{cons_option}
use Rattle.std.proofs.lemmas.Slice.Eq.{bytes_eq-Decides}
use Rattle.sso_base.specs.Words.{Word}
use Rattle.sso_base.specs.Rows.{without, put, row_of, rows_by}
use Rattle.sso_base.specs.Stands.{is_named, KeepsNames, IsDistinct}

pub bool_cases : (b : Bool) → (b ≡ true) ⊎ (b ≡ false)
bool_cases true = inl refl
bool_cases false = inr refl

pub option_cases : {R : Type 0} (o : Option R) → (o ≡ None) ⊎ ((r : R) × (o ≡ Some r))
option_cases None = inl refl
option_cases (Some r) = inr (r, refl)

pub bytes_same : (v w : Word) → bytes_eq v w ≡ true → v ≡ w
bytes_same v w e = (bytes_eq-Decides v w).0 e

pub bytes_true : (v w : Word) → v ≡ w → bytes_eq v w ≡ true
bytes_true v w e = (bytes_eq-Decides v w).1 e

-- a row that is found has the name
pub row_has_name : {R : Type 0} (name : R → Word) (w : Word) (rows : List R) (row : R) → row_of name w rows ≡ Some row → name row ≡ w
row_has_name name w [] row found = cc
row_has_name {R} name w (r ∷ rows) row found =
    let C : Bool → Option R = λ b. cond b (Some r) (row_of name w rows) in
    let U : Option R → R = λ o. unwrap_or o r in
    elim (bool_cases (bytes_eq (name r) w)) [
      | inl e ↦ (let same : r ≡ row = ap U (sym (ap C e) ∙ found) in ap name (sym same) ∙ bytes_same (name r) w e)
      | inr e ↦ row_has_name name w rows row (sym (ap C e) ∙ found)
    ]

pub bytes_turn : (v w : Word) → bytes_eq v w ≡ false → bytes_eq w v ≡ false
bytes_turn v w e =
    elim (bool_cases (bytes_eq w v)) [
      | inl f ↦ (let g : bytes_eq v w ≡ true = bytes_true v w (sym (bytes_same w v f)) in cc)
      | inr f ↦ f
    ]

-- ---- without

pub row_of-without_same : {R : Type 0} (name : R → Word) (w : Word) (rows : List R) → row_of name w (without name w rows) ≡ None
row_of-without_same name w [] = refl
row_of-without_same {R} name w (r ∷ rs) =
    let F : Bool → Option R = λ b. row_of name w (cond b (without name w rs) (r ∷ without name w rs)) in
    let G : Bool → Option R = λ b. cond b (Some r) (row_of name w (without name w rs)) in
    elim (bool_cases (bytes_eq (name r) w)) [
      | inl e ↦ ap F e ∙ row_of-without_same name w rs
      | inr e ↦ ap F e ∙ ap G e ∙ row_of-without_same name w rs
    ]

pub row_of-without_other : {R : Type 0} (name : R → Word) (v w : Word) (rows : List R) → bytes_eq v w ≡ false → row_of name w (without name v rows) ≡ row_of name w rows
row_of-without_other name v w [] h = refl
row_of-without_other {R} name v w (r ∷ rs) h =
    let F : Bool → Option R = λ b. row_of name w (cond b (without name v rs) (r ∷ without name v rs)) in
    let G : Bool → Option R = λ b. cond b (Some r) (row_of name w rs) in
    let H : Option R → Option R = λ o. cond (bytes_eq (name r) w) (Some r) o in
    let T : Word → Bool = λ x. bytes_eq x w in
    elim (bool_cases (bytes_eq (name r) v)) [
      | inl e ↦ ap F e ∙ row_of-without_other name v w rs h ∙ sym (ap G (ap T (bytes_same (name r) v e) ∙ h))
      | inr e ↦ ap F e ∙ ap H (row_of-without_other name v w rs h)
    ]

-- ---- put

abbrev pub or_row : {R : Type 0} → Option R → Option R → Option R
or_row None o = o
or_row (Some r) o = Some r

pub row_of-append : {R : Type 0} (name : R → Word) (w : Word) (xs ys : List R) → row_of name w (xs ++ ys) ≡ or_row (row_of name w xs) (row_of name w ys)
row_of-append name w [] ys = refl
row_of-append {R} name w (r ∷ rs) ys =
    let F : Bool → Option R = λ b. cond b (Some r) (row_of name w (rs ++ ys)) in
    let G : Bool → Option R = λ b. or_row (cond b (Some r) (row_of name w rs)) (row_of name w ys) in
    elim (bool_cases (bytes_eq (name r) w)) [
      | inl e ↦ ap F e ∙ sym (ap G e)
      | inr e ↦ ap F e ∙ row_of-append name w rs ys ∙ sym (ap G e)
    ]

or_none : {R : Type 0} (o : Option R) → or_row o None ≡ o
or_none None = refl
or_none (Some r) = refl

pub row_of-put : {R : Type 0} (name : R → Word) (w : Word) (m : Option R) (rows : List R) → row_of name w (put name m rows) ≡ cond (is_named name w m) m (row_of name w rows)
row_of-put name w None rows = refl
row_of-put {R} name w (Some r) rows =
    let told : row_of name w (without name (name r) rows ++ r ∷ []) ≡ or_row (row_of name w (without name (name r) rows)) (row_of name w (r ∷ [])) =
    row_of-append name w (without name (name r) rows) (r ∷ []) in
    let F : Bool → Option R = λ b. or_row (row_of name w (without name (name r) rows)) (cond b (Some r) None) in
    let G : Bool → Option R = λ b. cond b (Some r) (row_of name w rows) in
    let O : Option R → Option R = λ o. or_row o (Some r) in
    let N : Option R → Option R = λ o. or_row o None in
    let W : Word → Option R = λ x. row_of name w (without name x rows) in
    elim (bool_cases (bytes_eq (name r) w)) [
      | inl e ↦ told ∙ ap F e ∙ ap O (ap W (bytes_same (name r) w e) ∙ row_of-without_same name w rows) ∙ sym (ap G e)
      | inr e ↦ told ∙ ap F e ∙ ap N (row_of-without_other name (name r) w rows e) ∙ or_none (row_of name w rows) ∙ sym (ap G e)
    ]

-- ---- filter_map

pub row_of-filter_map : {R : Type 0} (name : R → Word) (k : R → Option R) (w : Word) (rows : List R) → ((r s : R) → k r ≡ Some s → name s ≡ name r) → IsDistinct name rows → row_of name w (filter_map k rows) ≡ option_and_then k (row_of name w rows)
row_of-filter_map name k w [] names d = refl
row_of-filter_map {R} name k w (r ∷ rs) names d =
    let again : row_of name w (filter_map k rs) ≡ option_and_then k (row_of name w rs) = row_of-filter_map name k w rs names d.1 in
    let E : Option R → Option R = λ o. row_of name w (cons_option o (filter_map k rs)) in
    let G : Bool → Option R = λ b. option_and_then k (cond b (Some r) (row_of name w rs)) in
    let A : Option R → Option R = λ o. option_and_then k o in
    let V : Word → Option R = λ x. row_of name x rs in
    elim (option_cases (k r)) [
      | inl gone ↦ elim (bool_cases (bytes_eq (name r) w)) [
        | inl e ↦ ap E gone ∙ again ∙ ap A (sym (ap V (bytes_same (name r) w e)) ∙ d.0) ∙ sym gone ∙ sym (ap G e)
        | inr e ↦ ap E gone ∙ again ∙ sym (ap G e)
      ]
      | inr left ↦
          (let same : name left.0 ≡ name r = names r left.0 left.1 in
          let T : Word → Bool = λ x. bytes_eq x w in
          let B : Bool → Option R = λ b. cond b (Some left.0) (row_of name w (filter_map k rs)) in
          elim (bool_cases (bytes_eq (name r) w)) [
            | inl e ↦ ap E left.1 ∙ ap B (ap T same ∙ e) ∙ sym left.1 ∙ sym (ap G e)
            | inr e ↦ ap E left.1 ∙ ap B (ap T same ∙ e) ∙ again ∙ sym (ap G e)
          ])
    ]

-- ---- distinct names

none_without : {R : Type 0} (name : R → Word) (v w : Word) (rows : List R) → row_of name v rows ≡ None → row_of name v (without name w rows) ≡ None
none_without {R} name v w rows h =
    let W : Word → Option R = λ x. row_of name v (without name x rows) in
    elim (bool_cases (bytes_eq w v)) [
      | inl e ↦ ap W (bytes_same w v e) ∙ row_of-without_same name v rows
      | inr e ↦ row_of-without_other name w v rows e ∙ h
    ]

distinct_without : {R : Type 0} (name : R → Word) (w : Word) (rows : List R) → IsDistinct name rows → IsDistinct name (without name w rows)
distinct_without name w [] d = tt
distinct_without {R} name w (r ∷ rs) d =
    let D : Bool → Type 0 = λ b. IsDistinct name (cond b (without name w rs) (r ∷ without name w rs)) in
    elim (bool_cases (bytes_eq (name r) w)) [
      | inl e ↦ subst D (sym e) (distinct_without name w rs d.1)
      | inr e ↦ subst D (sym e) (none_without name (name r) w rs d.0, distinct_without name w rs d.1)
    ]

pub distinct_push : {R : Type 0} (name : R → Word) (row : R) (rows : List R) → IsDistinct name rows → row_of name (name row) rows ≡ None → IsDistinct name (rows ++ row ∷ [])
distinct_push name row [] d h = (refl, tt)
distinct_push {R} name row (r ∷ rs) d h =
    let G : Bool → Option R = λ b. cond b (Some r) (row_of name (name row) rs) in
    let O : Option R → Option R = λ o. or_row o (row_of name (name r) (row ∷ [])) in
    let F : Bool → Option R = λ b. cond b (Some row) None in
    elim (bool_cases (bytes_eq (name r) (name row))) [
      | inl e ↦ (let k : G true ≡ None = sym (ap G e) ∙ h in cc)
      | inr e ↦ (row_of-append name (name r) rs (row ∷ []) ∙ ap O d.0 ∙ ap F (bytes_turn (name r) (name row) e), distinct_push name row rs d.1 (sym (ap G e) ∙ h))
    ]

distinct_put : {R : Type 0} (name : R → Word) (m : Option R) (rows : List R) → IsDistinct name rows → IsDistinct name (put name m rows)
distinct_put name None rows d = d
distinct_put name (Some r) rows d = distinct_push name r (without name (name r) rows) (distinct_without name (name r) rows d) (row_of-without_same name (name r) rows)

distinct_filter_map : {R : Type 0} (name : R → Word) (k : R → Option R) (rows : List R) → ((r s : R) → k r ≡ Some s → name s ≡ name r) → IsDistinct name rows → IsDistinct name (filter_map k rows)
distinct_filter_map name k [] names d = tt
distinct_filter_map {R} name k (r ∷ rs) names d =
    let D : Option R → Type 0 = λ o. IsDistinct name (cons_option o (filter_map k rs)) in
    let again : IsDistinct name (filter_map k rs) = distinct_filter_map name k rs names d.1 in
    let A : Option R → Option R = λ o. option_and_then k o in
    let V : Word → Option R = λ x. row_of name x (filter_map k rs) in
    elim (option_cases (k r)) [
      | inl gone ↦ subst D (sym gone) again
      | inr left ↦ subst D (sym left.1) (ap V (names r left.0 left.1) ∙ row_of-filter_map name k (name r) rs names d.1 ∙ ap A d.0, again)
    ]

-- The rows of a past have distinct names.
pub rows_distinct : {P R : Type 0} (name : R → Word) (made : List R → List P → P → Option R) (kept : List P → P → R → Option R) → KeepsNames name kept → (past : List P) → IsDistinct name (rows_by name made kept past)
rows_distinct name made kept names [] = tt
rows_distinct name made kept names (p ∷ past) =
    distinct_put name (made (rows_by name made kept past) past p) (filter_map (kept past p) (rows_by name made kept past))
    (distinct_filter_map name (kept past p) (rows_by name made kept past) (names past p) (rows_distinct name made kept names past))

-- One more pair: the row that it makes, else the row that stood, as the pair leaves it.
pub row_of-more : {P R : Type 0} (name : R → Word) (made : List R → List P → P → Option R) (kept : List P → P → R → Option R) → KeepsNames name kept → (w : Word) (p : P) (past : List P)
    → row_of name w (rows_by name made kept (p ∷ past)) ≡ cond (is_named name w (made (rows_by name made kept past) past p)) (made (rows_by name made kept past) past p) (option_and_then (kept past p) (row_of name w (rows_by name made kept past)))
row_of-more {P} {R} name made kept names w p past =
    let m : Option R = made (rows_by name made kept past) past p in
    let C : Option R → Option R = λ o. cond (is_named name w m) m o in
    row_of-put name w m (filter_map (kept past p) (rows_by name made kept past))
    ∙ ap C (row_of-filter_map name (kept past p) w (rows_by name made kept past) (names past p) (rows_distinct name made kept names past))
