-- A table is full for a name if and only if no row of the name has a place in it.
use Rattle.std.proofs.Common.{◌≡◌, ◌≤◌, ◌<◌, ℕ, Bool, true, false, not, ◌||◌, nat_lt, is_some, List, [], length, Option, Some, None, refl, ap, inl, inr, arith}
use Rattle.std.proofs.lemmas.Bool.{ltb-true, ltb-false, or_left, or_right}
use Rattle.sso_base.specs.Words.{Word}
use Rattle.sso_base.specs.Rows.{row_of}
use Rattle.held_rows.specs.Held.{most_rows, is_full, NoPlace}

module _ {R : Type 0} (name : R → Word) (w : Word) (rows : List R) where
  place_by : (few : Bool) (found : Option R) → nat_lt (length rows) most_rows ≡ few → row_of name w rows ≡ found → (not few || is_some found) ≡ true → NoPlace name w rows
  place_by false found few_is found_is h = inl (ltb-false (length rows) most_rows few_is)
  place_by true (Some row) few_is found_is h = inr (row, found_is)
  place_by true None few_is found_is h = cc

  pub no_place : is_full most_rows name w rows ≡ true → NoPlace name w rows
  no_place h = place_by (nat_lt (length rows) most_rows) (row_of name w rows) refl refl h

  low_high : (n m : ℕ) → n < m → m ≤ n → ⊥
  low_high n m low high = absurd (omega (arith, low, high))

  not_few : (few : Bool) → nat_lt (length rows) most_rows ≡ few → most_rows ≤ length rows → not few ≡ true
  not_few false is high = refl
  not_few true is high = absurd (low_high (length rows) most_rows (ltb-true (length rows) most_rows is) high)

  pub full_by : NoPlace name w rows → is_full most_rows name w rows ≡ true
  full_by (inl high) = or_left (not (nat_lt (length rows) most_rows)) (is_some (row_of name w rows)) (not_few (nat_lt (length rows) most_rows) refl high)
  full_by (inr found) =
      let S : Option R → Bool = λ o. is_some o in
      or_right (not (nat_lt (length rows) most_rows)) (is_some (row_of name w rows)) (ap S found.1)

-- an empty table has a place
pub place_beside_none : {R : Type 0} (name : R → Word) (w : Word) → NoPlace name w [] → ⊥
place_beside_none name w (inl full) = absurd (omega (arith, full))
place_beside_none name w (inr same) = (let k : None ≡ Some same.0 = same.1 in cc)
