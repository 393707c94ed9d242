-- The rows of one table: their invariant, how they change, and when there is room for one more. A word or a text names a row.
use Rattle.std.specs.Prelude.{◌≡◌, ◌<◌, ◌≤◌, ℕ, Bool, true, false, not, ◌||◌, nat_le, nat_lt, List, [], ◌∷◌, map, length, Option, Some, None, option_map}
use Rattle.std.specs.Prelude.{is_some, ◌⊎◌, if◌then◌else◌}
use Rattle.std.specs.Str.{bytes_eq}
use Rattle.std.specs.List.{list_all, AllByRecursion}
use Rattle.sso_base.specs.Words.{Word}
use Rattle.sso_base.specs.Rows.{put, row_of, lives, live_rows}
use Rattle.sso_base.specs.Stands.{IsDistinct}
use Rattle.held_rows.specs.declared.row.By.{By}
use Rattle.held_rows.specs.declared.row.By.TheVariants.{Name, Group, OtherGroup}

-- the keys of a row: its name, and those of its two groups, if it has them
abbrev pub one_of : Option (List ℕ) → Option (List ℕ) → Option (List ℕ) → By → Option (List ℕ)
one_of name group other Name = name
one_of name group other Group = group
one_of name group other OtherGroup = other

-- the greatest number of rows in a table
abbrev pub most_rows : ℕ
most_rows = 65536

-- the rows of a table, and the number of rows that there is memory for
pub record Rows (R : Type 0) : Type 0 where
  pub rows : List R
  pub capacity : ℕ

-- each row begins no later than those after it
abbrev pub IsInOrder : {R : Type 0} → (R → ℕ) → List R → Type 0
IsInOrder begun [] = Unit {0}
IsInOrder begun (row ∷ rows) = AllByRecursion (λ later. begun row ≤ begun later) rows × IsInOrder begun rows

-- the invariant of every table
pub record IsHeld {R : Type 0} (name : R → Word) (begun : R → ℕ) (IsSound : R → Type 0) (rows : List R) : Type 0 where
  pub distinct : IsDistinct name rows
  pub ordered : IsInOrder begun rows
  pub few : length rows ≤ most_rows
  pub sound : AllByRecursion IsSound rows

-- none of the rows begins after the moment
abbrev pub none_after : {R : Type 0} → (R → ℕ) → ℕ → List R → Bool
none_after begun at rows = list_all (λ row. nat_le (begun row) at) rows

-- the rows after a change of the row of a name, in its place
abbrev pub changed : {R : Type 0} → (R → Word) → Word → (R → R) → List R → List R
changed name w change rows = map (λ row. if bytes_eq (name row) w then change row else row) rows

-- the rows after the row of a name is changed and moved to the end
abbrev pub moved : {R : Type 0} → (R → Word) → Word → (R → R) → List R → List R
moved name w change rows = put name (option_map change (row_of name w rows)) rows

-- the number of rows that live at the moment is below the limit
abbrev pub has_room_for_one : {R : Type 0} → ℕ → (R → ℕ) → ℕ → List R → Bool
has_room_for_one life begun at rows = nat_lt (length (live_rows life begun at rows)) most_rows

-- the number of rows is the limit, and all of them live at the moment
pub record IsFull {R : Type 0} (life : ℕ) (begun : R → ℕ) (at : ℕ) (rows : List R) : Type 0 where
  pub most : length rows ≡ most_rows
  pub live : live_rows life begun at rows ≡ rows

-- the number of rows has reached the limit, or one of them has the name
abbrev pub is_full : {R : Type 0} → ℕ → (R → Word) → Word → List R → Bool
is_full most name w rows = not (nat_lt (length rows) most) || is_some (row_of name w rows)

-- no row of the name has a place next to these rows: they are as many as a table may hold, or one of them has the name
abbrev pub NoPlace : {R : Type 0} → (R → Word) → Word → List R → Type 0
NoPlace {R} name w rows = (most_rows ≤ length rows) ⊎ ((row : R) × (row_of name w rows ≡ Some row))

-- if room is reserved, there is memory for one more row
abbrev pub HasMemory : {R : Type 0} → Bool → Rows R → Type 0
HasMemory reserved held = reserved ≡ true → length held.rows < held.capacity

-- the trivial invariant of a row
abbrev pub AnyRow : {R : Type 0} → R → Type 0
AnyRow row = Unit {0}

-- a row may be added: there is room for it, no row has its name, and no row begins later
pub record MayAddRow {R : Type 0} (name : R → Word) (begun : R → ℕ) (reserved : Bool) (rows : List R) (row : R) : Type 0 where
  pub room : reserved ≡ true
  pub few : length rows < most_rows
  pub unnamed : row_of name (name row) rows ≡ None
  pub latest : none_after begun (begun row) rows ≡ true

-- one of the rows, which passes a test
pub record IsPassing {R : Type 0} (name : R → Word) (passes : R → Bool) (rows : List R) (row : R) : Type 0 where
  pub there : row_of name (name row) rows ≡ Some row
  pub yes : passes row ≡ true

-- one of the rows, whose life has ended at the moment
pub record IsOver {R : Type 0} (name : R → Word) (life : ℕ) (begun : R → ℕ) (at : ℕ) (rows : List R) (row : R) : Type 0 where
  pub there : row_of name (name row) rows ≡ Some row
  pub over : lives life (begun row) at ≡ false
