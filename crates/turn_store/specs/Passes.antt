-- The terms of contracts about a store and its passes.
use Rattle.std.specs.Prelude.{◌≡◌, ℕ, List, [], ◌∷◌, false, ◌+◌, ◌++◌, ◌<◌, length}
use Rattle.std.specs.List.{AllByRecursion}
use Rattle.sso_base.specs.declared.history.Pair.{Pair}
use Rattle.sso_base.specs.Journal.{entry_of, history_weight}
use Rattle.turn_store.specs.declared.view.Called.{Called}
use Rattle.turn_store.specs.declared.view.PassView.{PassView}
use Rattle.turn_store.specs.declared.store.Pass.{Pass}
use Rattle.turn_store.specs.declared.store.Turn.{Turn}
use Rattle.turn_store.specs.Places.{places_of, Begins, call_at}

module _ {C E : Type 0} where
  abbrev pub first_number : List (PassView C E) → ℕ
  first_number [] = 0
  first_number (p ∷ ps) = p.number

  abbrev pub first_front : List (PassView C E) → List E
  first_front [] = []
  first_front (p ∷ ps) = p.front

  abbrev pub first_calls : List (PassView C E) → List (Called E)
  first_calls [] = []
  first_calls (p ∷ ps) = p.calls

-- the pair that a step stores after a history
abbrev pub pair_of : {A R : Type 0} → List (Pair A R) → ℕ → List (List ℕ) → A → R → Pair A R
pair_of history at fresh asked reply = record { entry = entry_of history at fresh asked; reply = reply }

module _ {C A R : Type 0} where
  -- the number of the pass, counted from 0
  abbrev pub number_of : Pass C A R → ℕ
  number_of pass = first_number pass.seat.me.0.passes

  -- the prefix of the history that the pass has seen
  abbrev pub front_of : Pass C A R → List (Pair A R)
  front_of pass = first_front pass.seat.me.0.passes

  -- the calls of the pass, each with its place and the pair that it stored there
  abbrev pub calls_of : Pass C A R → List (Called (Pair A R))
  calls_of pass = first_calls pass.seat.me.0.passes

  -- a pass that has seen no history and made no call
  pub record HasDoneNothing (pass : Pass C A R) : Type 0 where
    pub front : front_of pass ≡ []
    pub calls : calls_of pass ≡ []

  -- the initial core of the store
  abbrev pub start_of : Turn C A R → C
  start_of turn = turn.table.shared.key.core.value

  -- the number of passes of the store
  abbrev pub passes_of : Turn C A R → ℕ
  passes_of turn = turn.table.shared.key.pass_count

  -- the setup of the store
  abbrev pub setup_of : {S : Type 0} → (C → S) → Turn C A R → S
  setup_of setup turn = setup (start_of turn)

-- It is a pass of this store: it knows the store's setup, its prefix is a legal history for it, and it was told the places of its
-- calls.
pub record IsPassOf {C S A R : Type 0} (setup : C → S) (is_legal : S → List (Pair A R) → Type 0) (turn : Turn C A R) (pass : Pass C A R) : Type 0 where
  pub table : pass.seat.table_id ≡ turn.table.shared.table_id
  pub empty : pass.seat.me.1 ≡ []
  pub waits : pass.seat.me.0.holds ≡ false
  pub view : (p : PassView C (Pair A R)) × (pass.seat.me.0.passes ≡ p ∷ []) × (setup p.start ≡ setup_of setup turn)
  pub legal : is_legal (setup_of setup turn) (front_of pass)
  pub told : pass.calls ≡ places_of (calls_of pass)

-- the place is after all that the pass has seen, and after its calls
abbrev pub IsAfterSeen : {C A R : Type 0} → Pass C A R → ℕ → Type 0
IsAfterSeen {C} {A} {R} pass place =
    (length (front_of pass) < place) × AllByRecursion (λ (call : Called (Pair A R)). call.place < place) (calls_of pass)

-- the pass has one more call, with this place and this pair
abbrev pub HasCalled : {C A R : Type 0} → Pass C A R → Pass C A R → ℕ → Pair A R → Type 0
HasCalled before after place pair = calls_of after ≡ calls_of before ++ call_at place pair ∷ []

-- The pass has seen a history of this weight, and the limit leaves no room for the request.
abbrev pub SeesFull : {C A R : Type 0} → (A → ℕ) → ℕ → Pass C A R → Pass C A R → A → ℕ → Type 0
SeesFull weighs most before after ask w =
    Begins (front_of before) (front_of after) × (w ≡ history_weight weighs (front_of after)) × (most < w + weighs ask)
