-- A row of a role's past stays, as to what is looked at, over pairs that make none of its name and leave it. A table gets its own law by
-- what a pair makes and what it leaves, under what is said of each pair.
use Rattle.std.proofs.Common.{◌≡◌, ℕ, Bool, true, false, cond, List, [], ◌∷◌, ◌++◌, Option, Some, None, option_and_then, ◌∙◌, ap, inl, inr, refl}
use Rattle.std.specs.Str.{bytes_eq}
use Rattle.std.specs.List.{AllByRecursion}
use Rattle.sso_base.specs.Words.{Word}
use Rattle.sso_base.specs.Rows.{row_of, rows_by, lives, if_lives}
use Rattle.sso_base.specs.Stands.{is_named, KeepsNames}
use Rattle.sso_base.proofs.RowLaws.{row_of-more, row_has_name, bool_cases, bytes_same, bytes_true}

-- no row with the name was made, if no new row has it
pub unnamed : {R : Type 0} (name : R → Word) (w : Word) (m : Option R) → ((row : R) → m ≡ Some row → name row ≡ w → ⊥) → is_named name w m ≡ false
unnamed name w None never = refl
unnamed name w (Some row) never =
    elim (bool_cases (bytes_eq (name row) w)) [
      | inl e ↦ absurd (never row refl (bytes_same (name row) w e))
      | inr e ↦ e
    ]

module _ {P R : Type 0} (name : R → Word) (made : List R → List P → P → Option R) (kept : List P → P → R → Option R) (names : KeepsNames name kept) where
  abbrev rows : List P → List R
  rows past = rows_by name made kept past

  -- ---- one more pair

  -- a new row is in the table
  pub made_stands : (past : List P) (p : P) (m : R) → made (rows past) past p ≡ Some m → row_of name (name m) (rows (p ∷ past)) ≡ Some m
  made_stands past p m is =
      let C : Option R → Option R = λ o. cond (is_named name (name m) o) o (option_and_then (kept past p) (row_of name (name m) (rows past))) in
      let B : Bool → Option R = λ b. cond b (Some m) (option_and_then (kept past p) (row_of name (name m) (rows past))) in
      row_of-more name made kept names (name m) p past ∙ (ap C is ∙ ap B (bytes_true (name m) (name m) refl))

  -- a row stays as it is left, if none with its name is made
  pub kept_stands : (past : List P) (p : P) (w : Word) (row after : R) → is_named name w (made (rows past) past p) ≡ false → row_of name w (rows past) ≡ Some row → kept past p row ≡ Some after
      → row_of name w (rows (p ∷ past)) ≡ Some after
  kept_stands past p w row after none there left =
      let m : Option R = made (rows past) past p in
      let C : Bool → Option R = λ b. cond b m (option_and_then (kept past p) (row_of name w (rows past))) in
      let K : Option R → Option R = λ o. option_and_then (kept past p) o in
      row_of-more name made kept names w p past ∙ (ap C none ∙ (ap K there ∙ left))

  -- ---- more pairs

  -- a row stays as it is over pairs that make none of its name and leave it; `Legal` is what is known of the whole past, `Sparing` of each pair
  pub stays : (Legal : List P → Type 0) → ((p : P) (past : List P) → Legal (p ∷ past) → Legal past) → (Sparing : P → Type 0) → (w : Word) (row : R)
      → ((past : List P) (p : P) → Legal (p ∷ past) → Sparing p → is_named name w (made (rows past) past p) ≡ false)
      → ((past : List P) (p : P) → Legal (p ∷ past) → Sparing p → name row ≡ w → kept past p row ≡ Some row)
      → (later past : List P) → Legal (later ++ past) → AllByRecursion Sparing later → row_of name w (rows past) ≡ Some row → row_of name w (rows (later ++ past)) ≡ Some row
  stays Legal earlier Sparing w row unmade left [] past legal spared there = there
  stays Legal earlier Sparing w row unmade left (p ∷ later) past legal spared there =
      let before = stays Legal earlier Sparing w row unmade left later past (earlier p (later ++ past) legal) spared.1 there in
      kept_stands (later ++ past) p w row row (unmade (later ++ past) p legal spared.0) before
      (left (later ++ past) p legal spared.0 (row_has_name name w (rows (later ++ past)) row before))

  -- the same of a part of a row: `Legal` is what is known of the whole past, `Sparing` of each pair, and `look` what is looked at of a row
  module _ {X : Type 0} (Legal : List P → Type 0) (earlier : (p : P) (past : List P) → Legal (p ∷ past) → Legal past) (Sparing : P → Type 0) (look : R → X) (w : Word) (x : X) where
    -- a row with the name is in the table, and has this value for what is looked at
    pub record Found (past : List P) : Type 0 where
      pub row : R
      pub there : row_of name w (rows past) ≡ Some row
      pub same : look row ≡ x

    pub record Left (past : List P) (p : P) (row : R) : Type 0 where
      pub after : R
      pub left : kept past p row ≡ Some after
      pub same : look after ≡ look row

    abbrev pub NoneMade : Type 0
    NoneMade = (past : List P) (p : P) → Legal (p ∷ past) → Sparing p → is_named name w (made (rows past) past p) ≡ false

    abbrev pub Leaves : Type 0
    Leaves = (past : List P) (p : P) (row : R) → Legal (p ∷ past) → Sparing p → name row ≡ w → look row ≡ x → Left past p row

    module _ (unmade : NoneMade) (leaves : Leaves) where
      one_more : (past : List P) (p : P) → Legal (p ∷ past) → Sparing p → Found past → Found (p ∷ past)
      one_more past p legal spares found =
          let s = leaves past p found.row legal spares (row_has_name name w (rows past) found.row found.there) found.same in
          record {
            row = s.after;
            there = kept_stands past p w found.row s.after (unmade past p legal spares) found.there s.left;
            same = s.same ∙ found.same;
          }

      pub persists : (later past : List P) → Legal (later ++ past) → AllByRecursion Sparing later → Found past → Found (later ++ past)
      persists [] past legal spared found = found
      persists (p ∷ later) past legal spared found =
          one_more (later ++ past) p legal spared.0 (persists later past (earlier p (later ++ past) legal) spared.1 found)

-- ---- a row in the table is live, if its time is not over

pub lives_on : {R : Type 0} (life : ℕ) (begun : R → ℕ) (at : ℕ) (row : R) (found : Option R) → found ≡ Some row → lives life (begun row) at ≡ true → option_and_then (if_lives life begun at) found ≡ Some row
lives_on {R} life begun at row found is live =
    let L : Bool → Option R = λ b. cond b (Some row) None in
    ap (option_and_then (if_lives life begun at)) is ∙ ap L live
