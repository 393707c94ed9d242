-- The row of a name after other rows were changed, added or left out.
use Rattle.std.proofs.Common.{◌≡◌, ℕ, Bool, true, false, cond, List, [], ◌∷◌, ◌++◌, filter, Option, Some, None, option_map, option_and_then, inl, inr, refl, sym, ◌∙◌, ap}
use Rattle.std.specs.Str.{bytes_eq}
use Rattle.sso_base.specs.Words.{Word}
use Rattle.sso_base.specs.Rows.{row_of, lives, live_rows, if_lives}
use Rattle.sso_base.specs.Stands.{IsDistinct}
use Rattle.sso_base.proofs.RowLaws.{bool_cases, option_cases, bytes_same, bytes_true, bytes_turn, row_of-append, or_row}
use Rattle.held_rows.specs.Held.{changed}
use Rattle.held_rows.proofs.Changing.{row_of-map, change_named, changed_has}
use Rattle.held_rows.proofs.HeldLaws.{row_none-filter, row_of_named}

-- after a change of the row of one name, the row of any name
row_of-changed_any : {R : Type 0} (name : R → Word) (w v : Word) (change : R → R) (rows : List R) → ((r : R) → name (change r) ≡ name r)
    → row_of name v (changed name w change rows) ≡ option_map (change_named name w change) (row_of name v rows)
row_of-changed_any {R} name w v change rows same =
    row_of-map name (change_named name w change) v rows (λ (r : R). changed_has (λ (x y : R). name x ≡ name y) name w change r (same r) refl)

-- changed
pub row_of-changed : {R : Type 0} (name : R → Word) (w : Word) (change : R → R) (rows : List R) → ((r : R) → name (change r) ≡ name r)
    → row_of name w (changed name w change rows) ≡ option_map change (row_of name w rows)
row_of-changed {R} name w change rows same =
    let any = row_of-changed_any name w w change rows same in
    let M : Option R → Option R = λ o. option_map (change_named name w change) o in
    let K : Option R → Option R = λ o. option_map change o in
    elim (option_cases (row_of name w rows)) [
      | inl none ↦ any ∙ ap M none ∙ sym (ap K none)
      | inr some ↦
          (let C : Bool → Option R = λ b. Some (cond b (change some.0) some.0) in
          any ∙ ap M some.1 ∙ ap C (row_of_named name w rows some.0 some.1) ∙ sym (ap K some.1))
    ]

-- another one changed
pub row_of-changed_other : {R : Type 0} (name : R → Word) (w v : Word) (change : R → R) (rows : List R) → ((r : R) → name (change r) ≡ name r) → bytes_eq w v ≡ false
    → row_of name v (changed name w change rows) ≡ row_of name v rows
row_of-changed_other {R} name w v change rows same other =
    let any = row_of-changed_any name w v change rows same in
    let M : Option R → Option R = λ o. option_map (change_named name w change) o in
    elim (option_cases (row_of name v rows)) [
      | inl none ↦ any ∙ ap M none ∙ sym none
      | inr some ↦
          (let C : Bool → Option R = λ b. Some (cond b (change some.0) some.0) in
          let B : Word → Bool = λ x. bytes_eq x w in
          let named : name some.0 ≡ v = bytes_same (name some.0) v (row_of_named name v rows some.0 some.1) in
          any ∙ ap M some.1 ∙ ap C (ap B named ∙ bytes_turn w v other) ∙ sym some.1)
    ]

-- another one added
pub row_of-push_other : {R : Type 0} (name : R → Word) (w : Word) (row : R) (rows : List R) → bytes_eq (name row) w ≡ false → row_of name w (rows ++ row ∷ []) ≡ row_of name w rows
row_of-push_other {R} name w row [] other =
    let G : Bool → Option R = λ b. cond b (Some row) None in
    ap G other
row_of-push_other {R} name w row (r ∷ rs) other =
    let K : Option R → Option R = λ o. cond (bytes_eq (name r) w) (Some r) o in
    ap K (row_of-push_other name w row rs other)

-- only those that pass left
pub row_of-filter : {R : Type 0} (name : R → Word) (p : R → Bool) (w : Word) (rows : List R) → IsDistinct name rows
    → row_of name w (filter p rows) ≡ option_and_then (λ r. cond (p r) (Some r) None) (row_of name w rows)
row_of-filter name p w [] d = refl
row_of-filter {R} name p w (r ∷ rs) d =
    let k : R → Option R = λ x. cond (p x) (Some x) None in
    let again : row_of name w (filter p rs) ≡ option_and_then k (row_of name w rs) = row_of-filter name p w rs d.1 in
    let F : Bool → Option R = λ b. row_of name w (cond b (r ∷ filter p rs) (filter p rs)) in
    let N : Bool → Option R = λ b. cond b (Some r) (row_of name w (filter p rs)) in
    let G : Bool → Option R = λ b. option_and_then k (cond b (Some r) (row_of name w rs)) in
    let K : Bool → Option R = λ b. cond b (Some r) None in
    let V : Word → Option R = λ v. row_of name v rs in
    elim (bool_cases (bytes_eq (name r) w)) [
      | inl e ↦ elim (bool_cases (p r)) [
        | inl f ↦ ap F f ∙ ap N e ∙ sym (ap G e ∙ ap K f)
        | inr f ↦ ap F f ∙ row_none-filter name w p rs (sym (ap V (bytes_same (name r) w e)) ∙ d.0) ∙ sym (ap G e ∙ ap K f)
      ]
      | inr e ↦ elim (bool_cases (p r)) [
        | inl f ↦ ap F f ∙ ap N e ∙ again ∙ sym (ap G e)
        | inr f ↦ ap F f ∙ again ∙ sym (ap G e)
      ]
    ]

pub row_of-live_rows : {R : Type 0} (name : R → Word) (life : ℕ) (begun : R → ℕ) (at : ℕ) (w : Word) (rows : List R) → IsDistinct name rows
    → row_of name w (live_rows life begun at rows) ≡ option_and_then (if_lives life begun at) (row_of name w rows)
row_of-live_rows {R} name life begun at w rows d = row_of-filter name (λ (r : R). lives life (begun r) at) w rows d

-- it is found, where its name was not held
pub row_of-push_same : {R : Type 0} (name : R → Word) (row : R) (rows : List R) → row_of name (name row) rows ≡ None → row_of name (name row) (rows ++ row ∷ []) ≡ Some row
row_of-push_same {R} name row rows none =
    let O : Option R → Option R = λ o. or_row o (row_of name (name row) (row ∷ [])) in
    let F : Bool → Option R = λ b. cond b (Some row) None in
    row_of-append name (name row) rows (row ∷ []) ∙ ap O none ∙ ap F (bytes_true (name row) (name row) refl)

-- what was found stays found
pub row_of-push_found : {R : Type 0} (name : R → Word) (w : Word) (found row : R) (rows : List R) → row_of name w rows ≡ Some found → row_of name w (rows ++ row ∷ []) ≡ Some found
row_of-push_found {R} name w found row rows h =
    let O : Option R → Option R = λ o. or_row o (row_of name w (row ∷ [])) in
    row_of-append name w rows (row ∷ []) ∙ ap O h

-- what was found and passes stays found, also where names stand twice
pub row_of-filter_found : {R : Type 0} (name : R → Word) (p : R → Bool) (w : Word) (found : R) (rows : List R) → row_of name w rows ≡ Some found → p found ≡ true
    → row_of name w (filter p rows) ≡ Some found
row_of-filter_found name p w found [] h pass = cc
row_of-filter_found {R} name p w found (r ∷ rs) h pass =
    let G : Bool → Option R = λ b. cond b (Some r) (row_of name w rs) in
    let F : Bool → Option R = λ b. row_of name w (cond b (r ∷ filter p rs) (filter p rs)) in
    let N : Bool → Option R = λ b. cond b (Some r) (row_of name w (filter p rs)) in
    elim (bool_cases (bytes_eq (name r) w)) [
      | inl e ↦
          (let same : r ≡ found = (let k : Some r ≡ Some found = sym (ap G e) ∙ h in cc) in
          ap F (ap p same ∙ pass) ∙ ap N e ∙ ap Some same)
      | inr e ↦
          (let again : row_of name w (filter p rs) ≡ Some found = row_of-filter_found name p w found rs (sym (ap G e) ∙ h) pass in
          elim (bool_cases (p r)) [ inl f ↦ ap F f ∙ ap N e ∙ again | inr f ↦ ap F f ∙ again ])
    ]
