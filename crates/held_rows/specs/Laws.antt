-- Laws about the rows of one table, which have these names. Each is a clause of a function of `law.rt`.
use Rattle.std.specs.Prelude.{◌≡◌, ℕ, false, List, option_map, option_and_then}
use Rattle.std.specs.Str.{bytes_eq}
use Rattle.sso_base.specs.Stands.{IsDistinct}
use Rattle.sso_base.specs.Words.{Word}
use Rattle.sso_base.specs.Rows.{row_of, live_rows, if_lives}
use Rattle.held_rows.specs.Held.{changed}

-- For each name, a purge leaves the row that lives.
abbrev pub PurgesLeaveWhatLives : {R : Type 0} → (R → Word) → Type 0
PurgesLeaveWhatLives {R} name =
    (life : ℕ) (begun : R → ℕ) (at : ℕ) (w : Word) (rows : List R) → IsDistinct name rows
    → row_of name w (live_rows life begun at rows) ≡ option_and_then (if_lives life begun at) (row_of name w rows)

-- A change that leaves all names changes the row of its name,
abbrev pub ChangesAreOfTheirRow : {R : Type 0} → (R → Word) → Type 0
ChangesAreOfTheirRow {R} name =
    (w : Word) (change : R → R) (rows : List R) → ((r : R) → name (change r) ≡ name r)
    → row_of name w (changed name w change rows) ≡ option_map change (row_of name w rows)

-- and leaves the rows of other names.
abbrev pub ChangesLeaveOtherRows : {R : Type 0} → (R → Word) → Type 0
ChangesLeaveOtherRows {R} name =
    (w v : Word) (change : R → R) (rows : List R) → ((r : R) → name (change r) ≡ name r) → bytes_eq w v ≡ false
    → row_of name v (changed name w change rows) ≡ row_of name v rows
