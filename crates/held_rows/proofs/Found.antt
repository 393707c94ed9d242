-- The row of a name, among all rows and among those that live.
use Rattle.std.proofs.Common.{◌≡◌, ◌≤◌, ℕ, Bool, true, false, cond, List, [], ◌∷◌, Option, Some, None, is_some, option_and_then, IfSome, sym, ◌∙◌, ap, inl, inr, Bor}
use Rattle.std.specs.Option.{option_copied}
use Rattle.std.specs.Str.{bytes_eq}
use Rattle.std.specs.List.{list_all}
use Rattle.std.proofs.lemmas.Bool.{and_parts}
use Rattle.sso_base.specs.Words.{Word}
use Rattle.sso_base.specs.Rows.{row_of, lives, if_lives, live_rows}
use Rattle.sso_base.specs.Stands.{IsDistinct}
use Rattle.sso_base.proofs.Lives.{live_later}
use Rattle.sso_base.proofs.RowLaws.{bool_cases}
use Rattle.held_rows.proofs.RowOf.{row_of-live_rows}

-- ---- rows that live the same in both

module _ {R : Type 0} (name : R → Word) (life : ℕ) (begun : R → ℕ) where
  -- what is the same at a moment is the same at a later one
  pub same_later : (before at : ℕ) → before ≤ at → (xs ys : List R) → live_rows life begun before xs ≡ live_rows life begun before ys
      → live_rows life begun at xs ≡ live_rows life begun at ys
  same_later before at order xs ys same =
      let L : List R → List R = λ rows. live_rows life begun at rows in
      sym (live_later life begun before at order xs) ∙ ap L same ∙ live_later life begun before at order ys

  pub found_in_both : (before at : ℕ) → before ≤ at → (w : Word) (xs ys : List R) → IsDistinct name xs → IsDistinct name ys
      → live_rows life begun before xs ≡ live_rows life begun before ys
      → option_and_then (if_lives life begun at) (row_of name w xs) ≡ option_and_then (if_lives life begun at) (row_of name w ys)
  found_in_both before at order w xs ys one other same =
      let F : List R → Option R = λ rows. row_of name w rows in
      sym (row_of-live_rows name life begun at w xs one) ∙ ap F (same_later before at order xs ys same) ∙ row_of-live_rows name life begun at w ys other

  -- a row is live after the past if and only if it is found among the live ones
  pub found_live : (at : ℕ) (w : Word) (rows : List R) → IsDistinct name rows → option_and_then (if_lives life begun at) (row_of name w rows) ≡ row_of name w (live_rows life begun at rows)
  found_live at w rows distinct = sym (row_of-live_rows name life begun at w rows distinct)

-- what all rows have, the row of a name has
pub found_good : {R : Type 0} (name : R → Word) (good : R → Bool) (w : Word) (rows : List R) (row : R) → list_all good rows ≡ true → row_of name w rows ≡ Some row → good row ≡ true
found_good name good w [] row all found = cc
found_good {R} name good w (r ∷ rs) row all found =
    let both : (good r ≡ true) × (list_all good rs ≡ true) = and_parts (good r) (list_all good rs) all in
    let F : Bool → Option R = λ b. cond b (Some r) (row_of name w rs) in
    elim (bool_cases (bytes_eq (name r) w)) [
      | inl e ↦ (let here : Some r ≡ Some row = sym (ap F e) ∙ found in cc)
      | inr e ↦ found_good name good w rs row both.1 (sym (ap F e) ∙ found)
    ]

-- ---- one row: found and live, found and not live, not found

module _ {R : Type 0} (life : ℕ) (begun : R → ℕ) (at : ℕ) where
  pub is_found : (row : R) (o : Option R) → Some row ≡ o → true ≡ lives life (begun row) at → Some row ≡ option_and_then (if_lives life begun at) o
  is_found row o found live =
      let F : Option R → Option R = λ x. option_and_then (if_lives life begun at) x in
      let C : Bool → Option R = λ b. cond b (Some row) None in
      ap C live ∙ ap F found

  pub is_gone : (row : R) (o : Option R) → Some row ≡ o → false ≡ lives life (begun row) at → None ≡ option_and_then (if_lives life begun at) o
  is_gone row o found ended =
      let F : Option R → Option R = λ x. option_and_then (if_lives life begun at) x in
      let C : Bool → Option R = λ b. cond b (Some row) None in
      ap C ended ∙ ap F found

  pub is_absent : (o : Option R) → None ≡ o → None ≡ option_and_then (if_lives life begun at) o
  is_absent o found =
      let F : Option R → Option R = λ x. option_and_then (if_lives life begun at) x in
      ap F found

pub if_some : {R : Type 0} (b : Bool) (r row : R) → cond b (Some r) None ≡ Some row → Some r ≡ Some row
if_some true r row h = h
if_some false r row h = cc

pub row_that_lives : {R : Type 0} (life : ℕ) (begun : R → ℕ) (at : ℕ) (found : Option R) (row : R) → option_and_then (if_lives life begun at) found ≡ Some row → found ≡ Some row
row_that_lives life begun at None row h = cc
row_that_lives life begun at (Some r) row h = if_some (lives life (begun r) at) r row h

-- what all rows have, the row of a name has if it lives
pub living_good : {R : Type 0} (name : R → Word) (life : ℕ) (begun : R → ℕ) (at : ℕ) (good : R → Bool) (w : Word) (rows : List R) (o : Option R)
    → list_all good rows ≡ true → o ≡ option_and_then (if_lives life begun at) (row_of name w rows) → IfSome o (λ row. good row ≡ true)
living_good name life begun at good w rows None all found = tt
living_good name life begun at good w rows (Some row) all found =
    found_good name good w rows row all (row_that_lives life begun at (row_of name w rows) row (sym found))

-- whether a row was found, by the row itself
pub found_one : {R : Type 0} (o : Option (Bor R)) (p : Option R) → option_copied o ≡ p → is_some o ≡ is_some p
found_one {R} None p h = let S : Option R → Bool = λ x. is_some x in ap S h
found_one {R} (Some r) p h = let S : Option R → Bool = λ x. is_some x in ap S h
