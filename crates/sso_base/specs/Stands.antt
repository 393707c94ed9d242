-- The literal meaning of "a row exists after a past": some pair made it, and no later pair made a row of its name or ended it.
-- Its value is what the later pairs left of it, in their order.
use Rattle.std.specs.Prelude.{◌≡◌, Bool, false, List, [], ◌∷◌, ◌++◌, Option, Some, None, option_and_then}
use Rattle.std.specs.Str.{bytes_eq}
use Rattle.sso_base.specs.Words.{Word}
use Rattle.sso_base.specs.Rows.{rows_by, row_of}

-- there is a row, and it has the name
abbrev pub is_named : {R : Type 0} → (R → Word) → Word → Option R → Bool
is_named name w None = false
is_named name w (Some row) = bytes_eq (name row) w

-- what later pairs leave of a row that existed after the pairs before them
abbrev pub carried : {P R : Type 0} → (List P → P → R → Option R) → List P → List P → R → Option R
carried kept [] before row = Some row
carried kept (p ∷ later) before row = option_and_then (kept (later ++ before) p) (carried kept later before row)

-- no later pair makes a row of the name
abbrev pub NoneMakes : {P R : Type 0} → (R → Word) → (List R → List P → P → Option R) → (List P → P → R → Option R) → Word → List P → List P → Type 0
NoneMakes name made kept w [] before = Unit {0}
NoneMakes name made kept w (p ∷ later) before =
    (is_named name w (made (rows_by name made kept (later ++ before)) (later ++ before) p) ≡ false) × NoneMakes name made kept w later before

pub record Stands
    {P R : Type 0} (name : R → Word) (made : List R → List P → P → Option R) (kept : List P → P → R → Option R) (past : List P)
    (w : Word) (row : R) : Type 0 where
  pub later : List P
  pub maker : P
  pub earlier : List P
  pub first : R
  pub parts : past ≡ later ++ maker ∷ earlier
  pub makes : made (rows_by name made kept earlier) earlier maker ≡ Some first
  pub named : name first ≡ w
  pub unmade : NoneMakes name made kept w later (maker ∷ earlier)
  pub stays : carried kept later (maker ∷ earlier) first ≡ Some row

-- a pair that keeps a row doesn't change its name
abbrev pub KeepsNames : {P R : Type 0} → (R → Word) → (List P → P → R → Option R) → Type 0
KeepsNames {P} {R} name kept = (past : List P) (p : P) (row after : R) → kept past p row ≡ Some after → name after ≡ name row

-- no two rows have the same name
abbrev pub IsDistinct : {R : Type 0} → (R → Word) → List R → Type 0
IsDistinct name [] = Unit {0}
IsDistinct name (row ∷ rows) = (row_of name (name row) rows ≡ None) × IsDistinct name rows
