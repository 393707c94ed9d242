-- The work for one connection, besides reading from it and writing to it: the steps of the core, the calls of the link, and the
-- number of readings of the clock.
use Rattle.std.specs.Prelude.{◌≡◌, ◌≤◌, ℕ, suc, ◌*◌, List, [], ◌∷◌, ◌++◌, map, length, Option}
use Rattle.sso_base.specs.Words.{Word}
use Rattle.sso_base.specs.declared.history.Pair.{Pair}
use Rattle.server_desk.specs.Ahead.{MovedOn}
use Rattle.server_desk.specs.Links.{LinkState}
use Rattle.turn_store.specs.declared.store.Pass.{Pass}
use Rattle.turn_store.specs.Places.{Begins}
use Rattle.turn_store.specs.Passes.{front_of, calls_of}
use Rattle.serving.specs.LinkCalls.{LinkCall, TookCalls}
use Rattle.serving.specs.Steps.{Stepped, history_after, called_of, IsDrawn}

pub record Work (A R : Type 0) : Type 0 where
  pub steps : List (Stepped A R)
  pub calls : List LinkCall
  pub readings : ℕ

module _ {A R : Type 0} where
  -- the steps are in this history, the first after this prefix of it, and each of the others after the one before it
  abbrev pub LieBehind : List (Pair A R) → List (Pair A R) → List (Stepped A R) → Type 0
  LieBehind front history [] = Begins front history
  LieBehind front history (s ∷ steps) = Begins front s.before × LieBehind (history_after s) history steps

  -- each step was called with the next reading of the clock, starting with this one, and with the four words drawn then
  abbrev pub DrawnFrom : (ℕ → Option ℕ) → (ℕ → Option Word) → ℕ → List (Stepped A R) → Type 0
  DrawnFrom moments words reading [] = Unit {0}
  DrawnFrom moments words reading (s ∷ steps) = IsDrawn moments words reading s × DrawnFrom moments words (suc reading) steps

  -- the pass made these steps, and no others
  pub record MadeAll {C : Type 0} (old new : Pass C A R) (steps : List (Stepped A R)) : Type 0 where
    pub later : Begins (front_of old) (front_of new)
    pub lie : LieBehind (front_of old) (front_of new) steps
    pub calls : calls_of new ≡ calls_of old ++ map called_of steps

  -- that is all that was done with the pass, the link, the clock and the draw; each step had its own reading of the clock
  pub record Did
      {C : Type 0} (pass pass' : Pass C A R) (link link' : LinkState) (moments moments' : ℕ → Option ℕ)
      (words words' : ℕ → Option Word) (w : Work A R) : Type 0 where
    pub made : MadeAll pass pass' w.steps
    pub sent : TookCalls link link' w.calls
    pub drawn : DrawnFrom moments words 0 w.steps
    pub read : length w.steps ≤ w.readings
    pub clock : MovedOn moments moments' w.readings
    pub draw : MovedOn words words' (4 * w.readings)
