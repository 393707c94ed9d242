-- What the seat learns from each step on the table: about its view and the slots that it holds, before and after.
use Rattle.std.specs.Prelude.{◌≡◌, ℕ, ◌≤◌, ◌==◌, List, [], ◌∷◌, ◌++◌, map, length, MatchBool, Option, Some}
use Rattle.std.specs.List.{AllByRecursion}
use Rattle.atomic_table.specs.Table.{Step, Me}
use Rattle.sso_base.specs.Journal.{most_pairs}
use Rattle.turn_store.specs.declared.view.PassView.{PassView}
use Rattle.turn_store.specs.declared.view.SeatView.{SeatView}
use Rattle.turn_store.specs.Places.{Begins, StandsIn}
use Rattle.turn_store.specs.Views.{idle, at_turn, with_entry, with_front}

module _ {C S E : Type 0} (history : C → List E) (setup : C → S) (is_legal : S → List E → Type 0) where
  -- what a pass knows about the core that its seat took
  pub record FitsCore (core : C) (pass : PassView C E) : Type 0 where
    pub same : setup core ≡ setup pass.start
    pub legal : is_legal (setup core) (history core)
    pub front : Begins pass.front (history core)
    pub calls : AllByRecursion (StandsIn pass.front) pass.calls

  -- the seat took the turn, and the slot with the core
  abbrev pub IsAtTurn : Me (Option C) (SeatView C E) → Me (Option C) (SeatView C E) → Type 0
  IsAtTurn before after =
      (core : C) × AllByRecursion (FitsCore core) before.0.passes × (length (history core) ≤ most_pairs)
      × (after ≡ (at_turn before.0 (history core), (0, Some core) ∷ []))

  -- a compare-and-exchange, which takes the turn or changes nothing
  abbrev pub Takes : Step (Option C) → Me (Option C) (SeatView C E) → ℕ → Me (Option C) (SeatView C E) → Type 0
  Takes s before found after = MatchBool (found == s.first) (IsAtTurn before after) (after ≡ before)

  -- an addition, which gives the slot back with the core one pair longer
  abbrev pub Counts : Step (Option C) → Me (Option C) (SeatView C E) → ℕ → Me (Option C) (SeatView C E) → Type 0
  Counts s before found after =
      (core : C) (pair : E) → before.1 ≡ (0, Some core) ∷ [] → history core ≡ before.0.taken ++ pair ∷ []
      → after ≡ (idle (map (with_entry (history core) pair) before.0.passes), [])

  -- a subtraction, which gives the slot back with the core's history unchanged; the passes know what they knew
  abbrev pub Leaves : Step (Option C) → Me (Option C) (SeatView C E) → ℕ → Me (Option C) (SeatView C E) → Type 0
  Leaves s before found after = after ≡ (idle before.0.passes, [])

  -- the same, and the passes have seen that history
  abbrev pub LeavesFull : Step (Option C) → Me (Option C) (SeatView C E) → ℕ → Me (Option C) (SeatView C E) → Type 0
  LeavesFull s before found after = after ≡ (idle (map (with_front before.0.taken) before.0.passes), [])
