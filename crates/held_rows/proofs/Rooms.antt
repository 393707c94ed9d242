-- Room in a table: fewer rows live than it may hold, unless it is full of rows that live.
use Rattle.std.proofs.Common.{◌≡◌, ◌<◌, ◌≤◌, ℕ, Bool, true, false, List, ◌∷◌, ◌++◌, length, Option, None, Some, IsSome, IfSome, IfNone, is_some, inl, inr, refl, sym, ◌∙◌, ap, subst, arith}
use Rattle.std.specs.List.{filter_map}
use Rattle.std.proofs.lemmas.Bool.{lt-ltb, le-ltb}
use Rattle.sso_base.specs.Rows.{lives, live_rows}
use Rattle.sso_base.proofs.RowLaws.{option_cases}
use Rattle.held_rows.specs.Held.{most_rows, has_room_for_one, IsFull}
use Rattle.held_rows.specs.Counts.{Lists}
use Rattle.held_rows.proofs.Counts.{length-middle}
use Rattle.held_rows.proofs.Ends.{filter_middle}
use Rattle.held_rows.proofs.Finding.{rows_around}
use Rattle.held_rows.proofs.HeldLaws.{filter_short}

abbrev lives_at : {R : Type 0} → ℕ → (R → ℕ) → ℕ → R → Bool
lives_at life begun at row = lives life (begun row) at

-- a table of fewer rows has room
pub room_of_few : {R : Type 0} (life : ℕ) (begun : R → ℕ) (at : ℕ) (rows : List R) → length rows < most_rows → has_room_for_one life begun at rows ≡ true
room_of_few life begun at rows few =
    let low : length (live_rows life begun at rows) ≤ length rows = filter_short (lives_at life begun at) rows in
    let less : length rows < 65536 = few in
    lt-ltb (length (live_rows life begun at rows)) 65536 (omega arith)

pub no_room : {R : Type 0} (life : ℕ) (begun : R → ℕ) (at : ℕ) (rows : List R) → IsFull life begun at rows → has_room_for_one life begun at rows ≡ false
no_room {R} life begun at rows full =
    let long : List R → ℕ = λ xs. length xs in
    let most : length (live_rows life begun at rows) ≡ 65536 = ap long full.live ∙ full.most in
    le-ltb (length (live_rows life begun at rows)) 65536 (omega arith)

-- ---- by a row whose life has ended, or none

-- a table with a row whose life has ended has room
room_of_dead : {R : Type 0} (life : ℕ) (begun : R → ℕ) (at : ℕ) (before : List R) (row : R) (behind : List R) → lives life (begun row) at ≡ false → length (before ++ row ∷ behind) ≤ most_rows
    → has_room_for_one life begun at (before ++ row ∷ behind) ≡ true
room_of_dead life begun at before row behind dead few =
    let less : length (before ++ row ∷ behind) ≤ 65536 = few in
    let p = lives_at life begun at in
    let kept = ap length (filter_middle p before row behind dead) in
    let short = filter_short p (before ++ behind) in
    let long = length-middle before row behind in
    lt-ltb (length (live_rows life begun at (before ++ row ∷ behind))) 65536 (omega (arith, less, kept, short, long))

pub room_of_ended : {R : Type 0} (life : ℕ) (begun : R → ℕ) (at : ℕ) (f : ℕ → Option R) (by_issue : List ℕ) (slot : ℕ) → Lists f by_issue → length (filter_map f by_issue) ≤ most_rows → IsSome (f slot) → IfSome (f slot) (λ row. lives life (begun row) at ≡ false)
    → has_room_for_one life begun at (filter_map f by_issue) ≡ true
room_of_ended {R} life begun at f by_issue slot lists few some dead =
    let I : Option R → Type 0 = λ o. IfSome o (λ row. lives life (begun row) at ≡ false) in
    elim (option_cases (f slot)) [
      | inl none ↦ (let clash : false ≡ true = sym (ap is_some none) ∙ some in cc)
      | inr row ↦
          (let around = rows_around f by_issue lists slot row.0 row.1 in
          let H : List R → Type 0 = λ rows. has_room_for_one life begun at rows ≡ true in
          let F : List R → Type 0 = λ rows. length rows ≤ most_rows in
          subst H (sym around.rows) (room_of_dead life begun at (filter_map f around.before) row.0 (filter_map f around.behind) (subst I row.1 dead) (subst F around.rows few)))
    ]

-- what an answer says of the room
pub record Judged {R : Type 0} (life : ℕ) (begun : R → ℕ) (at : ℕ) (rows : List R) (answer : Bool) : Type 0 where
  pub room : answer ≡ has_room_for_one life begun at rows
  pub full : answer ≡ false → IsFull life begun at rows
  pub most : IsFull life begun at rows → answer ≡ false

-- fewer rows than the most
pub judged_few : {R : Type 0} (life : ℕ) (begun : R → ℕ) (at : ℕ) (rows : List R) → length rows < most_rows → Judged life begun at rows true
judged_few life begun at rows few =
    let room : true ≡ has_room_for_one life begun at rows = sym (room_of_few life begun at rows few) in
    record { room = room; full = λ h. (let clash : true ≡ false = h in cc); most = λ full. room ∙ no_room life begun at rows full }

-- the most, of which one's life has ended, or none's
pub judged_by_ended : {R : Type 0} (life : ℕ) (begun : R → ℕ) (at : ℕ) (f : ℕ → Option R) (by_issue : List ℕ) (ended : Option ℕ) → Lists f by_issue → length (filter_map f by_issue) ≤ most_rows → most_rows ≤ length (filter_map f by_issue)
    → IfSome ended (λ slot. IsSome (f slot) × IfSome (f slot) (λ row. lives life (begun row) at ≡ false)) → IfNone ended (live_rows life begun at (filter_map f by_issue) ≡ filter_map f by_issue)
    → Judged life begun at (filter_map f by_issue) (is_some ended)
judged_by_ended life begun at f by_issue None lists few many some none =
    let less : length (filter_map f by_issue) ≤ 65536 = few in
    let more : 65536 ≤ length (filter_map f by_issue) = many in
    let full : IsFull life begun at (filter_map f by_issue) = record { most = omega arith; live = none } in
    record { room = sym (no_room life begun at (filter_map f by_issue) full); full = λ h. full; most = λ h. refl }
judged_by_ended life begun at f by_issue (Some slot) lists few many some none =
    let room : true ≡ has_room_for_one life begun at (filter_map f by_issue) = sym (room_of_ended life begun at f by_issue slot lists few some.0 some.1) in
    record { room = room; full = λ h. (let clash : true ≡ false = h in cc); most = λ full. room ∙ no_room life begun at (filter_map f by_issue) full }
