-- What a table keeps of its rows, when rows are left out, added and changed.
use Rattle.std.proofs.Common.{◌≡◌, ◌<◌, ◌≤◌, ℕ, suc, Bool, true, not, nat_le, cond, List, [], ◌∷◌, ◌++◌, filter, length, Option, Some, None, IsSome, IfSome, inl, inr, refl, sym, ◌∙◌, ap, subst, arith}
use Rattle.std.specs.Str.{bytes_eq}
use Rattle.std.specs.List.{AllByRecursion}
use Rattle.std.proofs.lemmas.Bool.{and_parts, leb-true}
use Rattle.sso_base.specs.Words.{Word}
use Rattle.sso_base.specs.Rows.{without, row_of}
use Rattle.sso_base.specs.Stands.{IsDistinct}
use Rattle.sso_base.proofs.RowLaws.{bool_cases, bytes_same, bytes_true, row_has_name, row_of-without_same, row_of-without_other, distinct_push}
use Rattle.sso_base.proofs.Removing.{filter-without}
use Rattle.held_rows.specs.Held.{IsHeld, IsInOrder, none_after, most_rows}

-- ---- rows left out

pub all_filter : {R : Type 0} (P : R → Type 0) (p : R → Bool) (rows : List R) → AllByRecursion P rows → AllByRecursion P (filter p rows)
all_filter P p [] all = tt
all_filter {R} P p (r ∷ rs) all =
    let A : Bool → Type 0 = λ b. AllByRecursion P (cond b (r ∷ filter p rs) (filter p rs)) in
    elim (bool_cases (p r)) [
      | inl e ↦ subst A (sym e) (all.0, all_filter P p rs all.1)
      | inr e ↦ subst A (sym e) (all_filter P p rs all.1)
    ]

pub row_none-filter : {R : Type 0} (name : R → Word) (w : Word) (p : R → Bool) (rows : List R) → row_of name w rows ≡ None → row_of name w (filter p rows) ≡ None
row_none-filter name w p [] h = refl
row_none-filter {R} name w p (r ∷ rs) h =
    let G : Bool → Option R = λ b. cond b (Some r) (row_of name w rs) in
    let F : Bool → Option R = λ b. row_of name w (cond b (r ∷ filter p rs) (filter p rs)) in
    let H : Bool → Option R = λ b. cond b (Some r) (row_of name w (filter p rs)) in
    elim (bool_cases (bytes_eq (name r) w)) [
      | inl e ↦ (let k : G true ≡ None = sym (ap G e) ∙ h in cc)
      | inr e ↦ (let again : row_of name w (filter p rs) ≡ None = row_none-filter name w p rs (sym (ap G e) ∙ h) in
          elim (bool_cases (p r)) [ inl f ↦ ap F f ∙ ap H e ∙ again | inr f ↦ ap F f ∙ again ])
    ]

pub row_none-without : {R : Type 0} (name : R → Word) (v w : Word) (rows : List R) → row_of name w rows ≡ None → row_of name w (without name v rows) ≡ None
row_none-without {R} name v w rows none =
    let W : Word → Option R = λ x. row_of name w (without name x rows) in
    elim (bool_cases (bytes_eq v w)) [
      | inl e ↦ ap W (bytes_same v w e) ∙ row_of-without_same name w rows
      | inr e ↦ row_of-without_other name v w rows e ∙ none
    ]

pub distinct_filter : {R : Type 0} (name : R → Word) (p : R → Bool) (rows : List R) → IsDistinct name rows → IsDistinct name (filter p rows)
distinct_filter name p [] d = tt
distinct_filter {R} name p (r ∷ rs) d =
    let D : Bool → Type 0 = λ b. IsDistinct name (cond b (r ∷ filter p rs) (filter p rs)) in
    let again : IsDistinct name (filter p rs) = distinct_filter name p rs d.1 in
    elim (bool_cases (p r)) [
      | inl e ↦ subst D (sym e) (row_none-filter name (name r) p rs d.0, again)
      | inr e ↦ subst D (sym e) again
    ]

pub ordered_filter : {R : Type 0} (begun : R → ℕ) (p : R → Bool) (rows : List R) → IsInOrder begun rows → IsInOrder begun (filter p rows)
ordered_filter begun p [] o = tt
ordered_filter {R} begun p (r ∷ rs) o =
    let D : Bool → Type 0 = λ b. IsInOrder begun (cond b (r ∷ filter p rs) (filter p rs)) in
    let again : IsInOrder begun (filter p rs) = ordered_filter begun p rs o.1 in
    elim (bool_cases (p r)) [
      | inl e ↦ subst D (sym e) (all_filter (λ (later : R). begun r ≤ begun later) p rs o.0, again)
      | inr e ↦ subst D (sym e) again
    ]

pub filter_short : {R : Type 0} (p : R → Bool) (rows : List R) → length (filter p rows) ≤ length rows
filter_short p [] = omega arith
filter_short {R} p (r ∷ rs) =
    let low : length (filter p rs) ≤ length rs = filter_short p rs in
    let L : Bool → Type 0 = λ b. length (cond b (r ∷ filter p rs) (filter p rs)) ≤ suc (length rs) in
    elim (bool_cases (p r)) [ inl e ↦ subst L (sym e) (omega arith) | inr e ↦ subst L (sym e) (omega arith) ]

pub held_filter : {R : Type 0} (name : R → Word) (begun : R → ℕ) (IsSound : R → Type 0) (p : R → Bool) (rows : List R)
    → IsHeld name begun IsSound rows → IsHeld name begun IsSound (filter p rows)
held_filter name begun IsSound p rows h =
    let low : length (filter p rows) ≤ length rows = filter_short p rows in
    let few : length rows ≤ 65536 = h.few in
    record {
      distinct = distinct_filter name p rows h.distinct;
      ordered = ordered_filter begun p rows h.ordered;
      few = omega arith;
      sound = all_filter IsSound p rows h.sound;
    }

pub held_without : {R : Type 0} (name : R → Word) (begun : R → ℕ) (IsSound : R → Type 0) (w : Word) (rows : List R)
    → IsHeld name begun IsSound rows → IsHeld name begun IsSound (without name w rows)
held_without {R} name begun IsSound w rows h =
    let H : List R → Type 0 = λ xs. IsHeld name begun IsSound xs in
    subst H (filter-without name w rows) (held_filter name begun IsSound (λ (row : R). not (bytes_eq (name row) w)) rows h)

-- ---- one row more

pub all_push : {R : Type 0} (P : R → Type 0) (row : R) (rows : List R) → AllByRecursion P rows → P row → AllByRecursion P (rows ++ row ∷ [])
all_push P row [] all last = (last, tt)
all_push P row (r ∷ rs) all last = (all.0, all_push P row rs all.1 last)

pub ordered_push : {R : Type 0} (begun : R → ℕ) (row : R) (rows : List R) → IsInOrder begun rows → none_after begun (begun row) rows ≡ true → IsInOrder begun (rows ++ row ∷ [])
ordered_push begun row [] o h = (tt, tt)
ordered_push {R} begun row (r ∷ rs) o h =
    let parts = and_parts (nat_le (begun r) (begun row)) (none_after begun (begun row) rs) h in
    (all_push (λ (later : R). begun r ≤ begun later) row rs o.0 (leb-true (begun r) (begun row) parts.0), ordered_push begun row rs o.1 parts.1)

length_push : {R : Type 0} (row : R) (rows : List R) → length (rows ++ row ∷ []) ≡ suc (length rows)
length_push row [] = refl
length_push row (r ∷ rs) = ap suc (length_push row rs)

pub held_push : {R : Type 0} (name : R → Word) (begun : R → ℕ) (IsSound : R → Type 0) (row : R) (rows : List R)
    → IsHeld name begun IsSound rows → length rows < most_rows → row_of name (name row) rows ≡ None → none_after begun (begun row) rows ≡ true → IsSound row
    → IsHeld name begun IsSound (rows ++ row ∷ [])
held_push name begun IsSound row rows h fewer unnamed latest here =
    let long : length (rows ++ row ∷ []) ≡ suc (length rows) = length_push row rows in
    let low : length rows < 65536 = fewer in
    record {
      distinct = distinct_push name row rows h.distinct unnamed;
      ordered = ordered_push begun row rows h.ordered latest;
      few = omega arith;
      sound = all_push IsSound row rows h.sound here;
    }

-- ---- the row of a name

-- it has that name
pub row_of_named : {R : Type 0} (name : R → Word) (w : Word) (rows : List R) (row : R) → row_of name w rows ≡ Some row → bytes_eq (name row) w ≡ true
row_of_named name w rows row h = bytes_true (name row) w (row_has_name name w rows row h)

pub row_has : {R : Type 0} (name : R → Word) (P : R → Type 0) (w : Word) (rows : List R) → AllByRecursion P rows → IfSome (row_of name w rows) P
row_has name P w [] all = tt
row_has {R} name P w (r ∷ rs) all =
    let S : Bool → Type 0 = λ b. IfSome (cond b (Some r) (row_of name w rs)) P in
    elim (bool_cases (bytes_eq (name r) w)) [
      | inl e ↦ subst S (sym e) all.0
      | inr e ↦ subst S (sym e) (row_has name P w rs all.1)
    ]

pub some_has : {R : Type 0} (name : R → Word) (P : R → Type 0) (w : Word) (rows : List R) (row : R) → AllByRecursion P rows → row_of name w rows ≡ Some row → P row
some_has {R} name P w rows row all e =
    let S : Option R → Type 0 = λ o. IfSome o P in
    subst S e (row_has name P w rows all)

-- where a row of the name is taken out, fewer are left
pub shorter : {R : Type 0} (name : R → Word) (w : Word) (rows : List R) (row : R) → row_of name w rows ≡ Some row → length (without name (name row) rows) < length rows
shorter name w [] row e = cc
shorter {R} name w (r ∷ rs) row e =
    let G : Bool → Option R = λ b. cond b (Some r) (row_of name w rs) in
    let W : Bool → Type 0 = λ b. length (cond b (without name (name row) rs) (r ∷ without name (name row) rs)) < suc (length rs) in
    elim (bool_cases (bytes_eq (name r) w)) [
      | inl f ↦
          (let same : r ≡ row = (let k : Some r ≡ Some row = sym (ap G f) ∙ e in cc) in
          let named : bytes_eq (name r) (name row) ≡ true = bytes_true (name r) (name row) (ap name same) in
          let L : List R → Type 0 = λ xs. length xs ≤ length rs in
          let low : length (without name (name row) rs) ≤ length rs = subst L (filter-without name (name row) rs) (filter_short (λ (x : R). not (bytes_eq (name x) (name row))) rs) in
          subst W (sym named) (omega arith))
      | inr f ↦
          (let low : length (without name (name row) rs) < length rs = shorter name w rs row (sym (ap G f) ∙ e) in
          elim (bool_cases (bytes_eq (name r) (name row))) [ inl k ↦ subst W (sym k) (omega arith) | inr k ↦ subst W (sym k) (omega arith) ])
    ]

-- ---- the row of a name moved to the end

-- where a row of the name stands, it may be replaced by one at the end
row_there : {R : Type 0} (o : Option R) → IsSome o → (row : R) × (o ≡ Some row)
row_there None there = cc
row_there (Some row) there = (row, refl)

pub shorter_there : {R : Type 0} (name : R → Word) (w : Word) (rows : List R) → IsSome (row_of name w rows) → length (without name w rows) < length rows
shorter_there {R} name w rows there =
    let found = row_there (row_of name w rows) there in
    let L : Word → Type 0 = λ v. length (without name v rows) < length rows in
    subst L (row_has_name name w rows found.0 found.1) (shorter name w rows found.0 found.1)
