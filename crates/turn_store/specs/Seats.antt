-- Passes as seats at the table: dealt by a new store, and gathered by a closing one.
use Rattle.std.specs.Prelude.{◌≡◌, ℕ, List, [], ◌∷◌, ◌++◌, false}
use Rattle.sso_base.specs.declared.history.Pair.{Pair}
use Rattle.atomic_table.specs.Seated.{TableId}
use Rattle.turn_store.specs.declared.view.PassView.{PassView}
use Rattle.turn_store.specs.declared.store.Pass.{Pass}
use Rattle.turn_store.specs.Views.{idle, new_pass}
use Rattle.turn_store.specs.Passes.{number_of}

module _ {C A R : Type 0} where
  -- a new pass at this table, which has seen and done nothing
  pub record IsDealt (id : TableId) (start : C) (pass : Pass C A R) : Type 0 where
    pub table : pass.seat.table_id ≡ id
    pub view : pass.seat.me ≡ (idle (new_pass start (number_of pass) ∷ []), [])
    pub told : pass.calls ≡ []

  -- a pass at this table without the turn
  abbrev pub IsIdleAt : TableId → Pass C A R → Type 0
  IsIdleAt id pass = (pass.seat.table_id ≡ id) × (pass.seat.me.1 ≡ []) × (pass.seat.me.0.holds ≡ false)

  -- what all passes know
  abbrev pub views_in : List (Pass C A R) → List (PassView C (Pair A R))
  views_in [] = []
  views_in (p ∷ ps) = p.seat.me.0.passes ++ views_in ps

  -- the places that each pass was told
  abbrev pub lists_of : List (Pass C A R) → List (List ℕ)
  lists_of [] = []
  lists_of (p ∷ ps) = p.calls ∷ lists_of ps
