-- A row that a slot has is one of the rows.
use Rattle.std.proofs.Common.{◌≡◌, ℕ, Bool, true, false, List, Option, Some, None, IfSome, sym, ◌∙◌, ap, subst}
use Rattle.std.specs.List.{filter_map}
use Rattle.sso_base.specs.Rows.{row_of, lives}
use Rattle.sso_base.specs.Stands.{IsDistinct}
use Rattle.held_rows.specs.declared.row.By.{By}
use Rattle.held_rows.specs.declared.stored.Stored.{Stored}
use Rattle.held_rows.specs.Held.{IsPassing, IsOver}
use Rattle.held_rows.specs.Index.{row_at, stored_rows, IsStored}
use Rattle.held_rows.proofs.Finding.{rows_around}
use Rattle.held_rows.proofs.Middles.{row_of-middle}

module _ {R : Type 0} (name : R → List ℕ) (key : By → R → Option (List ℕ)) (begun : R → ℕ) (IsSound : R → Type 0) (s : Stored R) (stored : IsStored name key begun IsSound s) where
  slot_is_there : (slot : ℕ) (row : R) → row_at s.slots slot ≡ Some row → row_of name (name row) (stored_rows s) ≡ Some row
  slot_is_there slot row is =
      let around = rows_around (row_at s.slots) s.by_issue.items stored.issued slot row is in
      let D : List R → Type 0 = λ rows. IsDistinct name rows in
      ap (row_of name (name row)) around.rows ∙ row_of-middle name (filter_map (row_at s.slots) around.before) row (filter_map (row_at s.slots) around.behind) (subst D around.rows stored.held.distinct)

  pub passing_there : (passes : R → Bool) (slot : ℕ) (o : Option R) → o ≡ row_at s.slots slot → IfSome (row_at s.slots slot) (λ row. passes row ≡ true) → IfSome o (IsPassing name passes (stored_rows s))
  passing_there passes slot None is good = tt
  passing_there passes slot (Some row) is good =
      let Y : Option R → Type 0 = λ x. IfSome x (λ r. passes r ≡ true) in
      record { there = slot_is_there slot row (sym is); yes = subst Y (sym is) good }

  pub over_there : (life at slot : ℕ) (o : Option R) → o ≡ row_at s.slots slot → IfSome (row_at s.slots slot) (λ row. lives life (begun row) at ≡ false) → IfSome o (IsOver name life begun at (stored_rows s))
  over_there life at slot None is over = tt
  over_there life at slot (Some row) is over =
      let O : Option R → Type 0 = λ x. IfSome x (λ r. lives life (begun r) at ≡ false) in
      record { there = slot_is_there slot row (sym is); over = subst O (sym is) over }
