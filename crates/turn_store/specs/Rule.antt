-- The rule of the turn, about the table's word, its slot and what all seats know. The word is twice the length of the history,
-- and one more while the turn is taken. The core is in the slot, or with the seat that has the turn.
use Rattle.std.specs.Prelude.{◌≡◌, ℕ, zero, suc, ◌+◌, ◌*◌, ◌<◌, ◌≤◌, ◌⊎◌, List, [], ◌∷◌, length, true, false, Option, Some}
use Rattle.std.specs.List.{AllByRecursion}
use mathlib.Core.Option.{some, none}
use lib.ListN.{get_elem?}
use Rattle.atomic_table.specs.Table.{State}
use Rattle.sso_base.specs.Journal.{most_pairs}
use Rattle.turn_store.specs.declared.view.SeatView.{SeatView}
use Rattle.turn_store.specs.Places.{total}
use Rattle.turn_store.specs.Views.{IsSoundPass, calls_weight}

-- the sum of the weights of the places 1 to the last
abbrev pub total_upto : (ℕ → ℕ) → ℕ → ℕ
total_upto weight zero = 0
total_upto weight (suc last) = total_upto weight last + weight (suc last)

module _ {C E : Type 0} (start : C) (pass_count : ℕ) where
  -- What all seats know about the history: their passes are sound, and are as many as were made. Their calls are the places of
  -- the history, each once, since they weigh the same by every weight.
  pub record KeepsHistory (history : List E) (views : List (SeatView C E)) : Type 0 where
    pub sound : (id : ℕ) (v : SeatView C E) → get_elem? views id ≡ some v → AllByRecursion (IsSoundPass start history) v.passes
    pub count : total (λ (v : SeatView C E). length v.passes) views ≡ pass_count
    pub places : (weight : ℕ → ℕ) → total (λ (v : SeatView C E). calls_weight weight v.passes) views ≡ total_upto weight (length history)

module _ {C S E : Type 0} (history : C → List E) (setup : C → S) (is_legal : S → List E → Type 0) (start : C) (pass_count : ℕ) where
  -- nobody has the turn, and the core is in the slot
  pub record IsFree (s : State (Option C) (SeatView C E)) (core : C) : Type 0 where
    pub words : s.words ≡ (2 * length (history core)) ∷ []
    pub homes : s.homes ≡ some (Some core) ∷ []
    pub idle : (id : ℕ) (v : SeatView C E) → get_elem? s.views id ≡ some v → v.holds ≡ false
    pub kept : KeepsHistory start pass_count (history core) s.views
    pub same : setup core ≡ setup start
    pub legal : is_legal (setup core) (history core)
    pub small : length (history core) ≤ most_pairs

  -- one seat has the turn, and it knows the history when the turn was taken
  pub record IsTaken (s : State (Option C) (SeatView C E)) (log : List E) (seat : ℕ) : Type 0 where
    pub words : s.words ≡ (2 * length log + 1) ∷ []
    pub homes : s.homes ≡ none ∷ []
    pub one : (id : ℕ) (v : SeatView C E) → get_elem? s.views id ≡ some v → v.holds ≡ true → (id ≡ seat) × (v.taken ≡ log)
    pub holder : (h : SeatView C E) × (get_elem? s.views seat ≡ some h) × (h.holds ≡ true) × (0 < length h.passes)
    pub kept : KeepsHistory start pass_count log s.views
    pub small : length log ≤ most_pairs

  abbrev pub KeepsRule : State (Option C) (SeatView C E) → Type 0
  KeepsRule s = ((core : C) × IsFree s core) ⊎ ((log : List E) × (seat : ℕ) × IsTaken s log seat)
