-- Rows by recursion on the past. A past is a history with the newest pair first.
--
-- One kind of row is given by three functions: its name, the row that a pair makes, and the row that a pair leaves of an
-- existing row. The last one returns the row, a changed row, or nothing if the pair ends it. Rows are not removed because time
-- passes; whether a row is live depends on a moment.
use Rattle.std.specs.Prelude.{ℕ, ◌+◌, Bool, nat_lt, List, [], ◌∷◌, ◌++◌, filter, filter_map, Option, Some, None, if◌then◌else◌}
use Rattle.std.specs.Str.{bytes_eq}
use Rattle.sso_base.specs.Words.{Word}

-- the rows with other names
abbrev pub without : {R : Type 0} → (R → Word) → Word → List R → List R
without name w [] = []
without name w (row ∷ rows) = if bytes_eq (name row) w then without name w rows else row ∷ without name w rows

-- a new row goes to the end and replaces the row of its name
abbrev pub put : {R : Type 0} → (R → Word) → Option R → List R → List R
put name None rows = rows
put name (Some row) rows = without name (name row) rows ++ row ∷ []

-- the row of a name
abbrev pub row_of : {R : Type 0} → (R → Word) → Word → List R → Option R
row_of name w [] = None
row_of name w (row ∷ rows) = if bytes_eq (name row) w then Some row else row_of name w rows

-- the rows after one more pair: the existing rows, as the pair leaves them, and the new row
abbrev pub rows_after : {P R : Type 0} → (R → Word) → (List R → List P → P → Option R) → (List P → P → R → Option R) → List P → P → List R → List R
rows_after name made kept past p held = put name (made held past p) (filter_map (kept past p) held)

-- the rows after a past
abbrev pub rows_by : {P R : Type 0} → (R → Word) → (List R → List P → P → Option R) → (List P → P → R → Option R) → List P → List R
rows_by name made kept [] = []
rows_by name made kept (p ∷ past) = rows_after name made kept past p (rows_by name made kept past)

-- a life of n seconds
abbrev pub lives : ℕ → ℕ → ℕ → Bool
lives n begun at = nat_lt at (begun + n)

abbrev pub if_lives : {R : Type 0} → ℕ → (R → ℕ) → ℕ → R → Option R
if_lives n begun at row = if lives n (begun row) at then Some row else None

abbrev pub live_rows : {R : Type 0} → ℕ → (R → ℕ) → ℕ → List R → List R
live_rows n begun at rows = filter (λ row. lives n (begun row) at) rows
