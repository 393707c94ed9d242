-- What a seat at the turn knows, and how that changes. A seat usually has one pass. The first seat starts with all passes, and
-- a seat that was joined into another has none.
use Rattle.std.specs.Prelude.{◌≡◌, ℕ, zero, suc, List, [], ◌∷◌, ◌++◌, length, take, drop, true, false}
use Rattle.std.specs.List.{AllByRecursion}
use Rattle.turn_store.specs.declared.view.Called.{Called}
use Rattle.turn_store.specs.declared.view.PassView.{PassView}
use Rattle.turn_store.specs.declared.view.SeatView.{SeatView}
use Rattle.turn_store.specs.Places.{Begins, StandsIn, call_at, total}

module _ {C E : Type 0} where
  -- a pass that has seen and done nothing
  abbrev pub new_pass : C → ℕ → PassView C E
  new_pass start number = record { number = number; start = start; front = []; calls = [] }

  -- `count` of them, numbered from `first` on
  abbrev pub new_passes : C → ℕ → ℕ → List (PassView C E)
  new_passes start first zero = []
  new_passes start first (suc count) = new_pass start first ∷ new_passes start (suc first) count

  -- The pass knows the initial core and a prefix of the history, and its calls are in that prefix.
  abbrev pub IsSoundPass : C → List E → PassView C E → Type 0
  IsSoundPass start history pass = (pass.start ≡ start) × Begins pass.front history × AllByRecursion (StandsIn pass.front) pass.calls

  -- the sum of the weights of all calls of some passes, each by its place
  abbrev pub calls_weight : (ℕ → ℕ) → List (PassView C E) → ℕ
  calls_weight weight passes = total (λ (pass : PassView C E). total (λ (call : Called E). weight call.place) pass.calls) passes

  -- a pass after its own entry, which made this history
  abbrev pub with_entry : List E → E → PassView C E → PassView C E
  with_entry history pair pass = record { number = pass.number; start = pass.start; front = history; calls = pass.calls ++ call_at (length history) pair ∷ [] }

  -- a pass after a refusal, at which it saw this history
  abbrev pub with_front : List E → PassView C E → PassView C E
  with_front history pass = record { number = pass.number; start = pass.start; front = history; calls = pass.calls }

  -- a seat without the turn
  abbrev pub idle : List (PassView C E) → SeatView C E
  idle passes = record { passes = passes; holds = false; taken = [] }

  -- a seat that took the turn, when this was the history
  abbrev pub at_turn : SeatView C E → List E → SeatView C E
  at_turn v history = record { passes = v.passes; holds = true; taken = history }

  -- the first seat, with all passes
  abbrev pub first_seat : C → ℕ → SeatView C E
  first_seat start pass_count = idle (new_passes start 0 pass_count)

  -- a seat whose first pass went to a new seat, and that new seat
  abbrev pub without_first : SeatView C E → SeatView C E
  without_first v = idle (drop 1 v.passes)

  abbrev pub only_first : SeatView C E → SeatView C E
  only_first v = idle (take 1 v.passes)

  -- a seat that received the passes of another, and that other
  abbrev pub joined : SeatView C E → SeatView C E → SeatView C E
  joined v w = idle (v.passes ++ w.passes)

  abbrev pub spent : SeatView C E
  spent = idle []
