-- What a server did: each desk served its connections, and all their steps are the history of one core.
use Rattle.std.specs.Prelude.{◌≡◌, ◌⊎◌, ℕ, zero, suc, ◌+◌, ◌<◌, Bool, true, false, List, [], ◌∷◌, map, length, Option, Some, None, option_map}
use Rattle.std.specs.List.{sum_by}
use Rattle.sso_base.specs.Faults.{Rose}
use Rattle.sso_base.specs.Words.{Text, Word}
use Rattle.sso_base.specs.declared.history.Pair.{Pair}
use Rattle.server_desk.specs.Doors.{DoorState}
use Rattle.server_desk.specs.Links.{LinkState}
use Rattle.server_desk.specs.declared.desk.Desk.{Desk}
use Rattle.turn_store.specs.declared.calls.Closed.{Closed}
use Rattle.turn_store.specs.Places.{IsEachOnce, places_of}
use Rattle.serving.specs.declared.summary.Summary.{Summary}
use Rattle.serving.specs.Manner.{Manner}
use Rattle.serving.specs.Steps.{called_of}
use Rattle.serving.specs.Work.{LieBehind}
use Rattle.serving.specs.Working.{Service, AtDesk, steps_in}

-- the ghost contents of a desk's parts
pub record Telling (D L C W S K : Type 0) : Type 0 where
  pub state : D → DoorState S K
  pub closings : D → ℕ
  pub door_faults : D → ℕ
  pub link_state : L → LinkState
  pub moments : C → ℕ → Option ℕ
  pub words : W → ℕ → Option Word
  pub left : S → Option (List ℕ)
  pub read_faults : S → ℕ
  pub taken : K → Option (List ℕ)
  pub write_faults : K → ℕ

module _ {D L C W S K : Type 0} (t : Telling D L C W S K) where
  -- its door failed
  abbrev pub Failed : Desk D L C W → Desk D L C W → Type 0
  Failed old new = Rose (t.door_faults old.door) (t.door_faults new.door)

  -- its door could not be opened: it failed and kept its state, and all else is unchanged
  pub record Unopened (old new : Desk D L C W) : Type 0 where
    pub failed : Failed old new
    pub held : t.state new.door ≡ t.state old.door
    pub same : new ≡ record old { door = new.door }

  -- it served as many connections as it has turns, or its door reported that it is closed
  abbrev pub EndedWell : Desk D L C W → Desk D L C W → Type 0
  EndedWell old new =
      ((t.state new.door).given ≡ (t.state old.door).given + old.turns)
      ⊎ Rose (t.closings old.door) (t.closings new.door)

  module _ {A R : Type 0} (m : Manner A R) (most : ℕ) where
    -- the connections that it served, and its part of the history
    abbrev pub ServedAt : List (Pair A R) → Desk D L C W → Desk D L C W → List (Service S K A R) → Type 0
    ServedAt history old new services =
        AtDesk m most t.left t.read_faults t.taken t.write_faults history (t.state old.door) (t.state new.door)
        (t.link_state old.tools.link) (t.link_state new.tools.link) (t.moments old.tools.clock) (t.moments new.tools.clock) (t.words old.tools.draw)
        (t.words new.tools.draw) services

    -- One desk: it ended well or its door failed. If the first door could not listen, it served nobody. A door that did not
    -- fail listens at the right place. Its steps are in the history, in their order.
    pub record DeskServed
        (history : List (Pair A R)) (listening : Bool) (at : Option Text → Option Text) (old new : Desk D L C W)
        (services : List (Service S K A R)) : Type 0 where
      pub served : ServedAt history old new services
      pub order : LieBehind [] history (steps_in services)
      pub turns : new.turns ≡ old.turns
      pub ended : listening ≡ true → EndedWell old new ⊎ Failed old new
      pub idle : listening ≡ false → services ≡ []
      pub place : listening ≡ true → ((t.state new.door).place ≡ at (t.state old.door).place) ⊎ Failed old new

    -- the desks, one after another
    abbrev pub DesksServed : List (Pair A R) → Bool → (Option Text → Option Text) → List (Desk D L C W) → List (Desk D L C W)
        → List (List (Service S K A R)) → Type 0
    DesksServed history listening place [] [] [] = Unit {0}
    DesksServed history listening place (old ∷ olds) (new ∷ news) (services ∷ works) =
        DeskServed history listening place old new services × DesksServed history listening place olds news works
    DesksServed history listening place olds news works = ⊥

    -- The first desk listens at this place, and the others at its address. If its door could not be opened, the others are
    -- unchanged.
    abbrev pub AllServed : List (Pair A R) → Bool → Text → List (Desk D L C W) → List (Desk D L C W) → List (List (Service S K A R)) → Type 0
    AllServed history listening place (old ∷ olds) (new ∷ news) (services ∷ works) =
        (listening ≡ false → Unopened old new × (news ≡ olds))
        × DeskServed history listening (λ before. option_map (λ p. place) before) old new services
        × DesksServed history listening (λ before. (t.state new.door).place) olds news works
    AllServed history listening place olds news works = ⊥

  -- a door of one of the desks failed
  abbrev pub SomeFailed : List (Desk D L C W) → List (Desk D L C W) → Type 0
  SomeFailed (old ∷ olds) (new ∷ news) = Failed old new ⊎ SomeFailed olds news
  SomeFailed olds news = ⊥

  -- each desk ended well
  abbrev pub AllEndedWell : List (Desk D L C W) → List (Desk D L C W) → Type 0
  AllEndedWell [] [] = Unit {0}
  AllEndedWell (old ∷ olds) (new ∷ news) = EndedWell old new × AllEndedWell olds news
  AllEndedWell olds news = ⊥

-- the places of the steps of some connections
abbrev pub places_in : {S K A R : Type 0} → List (Service S K A R) → List ℕ
places_in {S} {K} {A} {R} services = places_of (map called_of (steps_in services))

-- The closed store: its history is legal for the setup, and each of its places is exactly one step of one connection of one
-- desk. It also states whether the first door was opened. A history for a setup may weigh `most` of it.
pub record ClosedSo
    {D L C W S K A R Core Setup : Type 0} (t : Telling D L C W S K) (m : Manner A R) (most : Setup → ℕ) (setup : Core → Setup)
    (history_of : Core → List (Pair A R)) (is_legal : Setup → List (Pair A R) → Type 0) (configured : Setup) (place : Text)
    (olds news : List (Desk D L C W)) (closed : Closed Core) (served entries : ℕ) : Type 0 where
  pub set_up : setup closed.core ≡ configured
  pub legal : is_legal configured (history_of closed.core)
  pub listening : Bool
  pub works : List (List (Service S K A R))
  pub desks : AllServed t m (most configured) (history_of closed.core) listening place olds news works
  pub calls : closed.calls ≡ map places_in works
  pub once : IsEachOnce (length (history_of closed.core)) closed.calls
  pub number : served ≡ sum_by length works
  pub length_is : entries ≡ length (history_of closed.core)

-- What a server did that has a worker at each of these desks. Without a desk it did nothing.
pub record SummarisesDesks
    {D L C W S K A R Core Setup : Type 0} (t : Telling D L C W S K) (m : Manner A R) (most : Setup → ℕ) (setup : Core → Setup)
    (history_of : Core → List (Pair A R)) (is_legal : Setup → List (Pair A R) → Type 0) (configured : Setup) (place : Text)
    (olds news : List (Desk D L C W)) (s : Summary Core A R) : Type 0 where
  pub none : olds ≡ [] → (s.served ≡ 0) × (s.entries ≡ 0) × (s.fault ≡ false) × (s.closed ≡ None) × (news ≡ [])
  pub some : 0 < length olds
      → (closed : Closed Core) × (s.closed ≡ Some closed)
      × ClosedSo t m most setup history_of is_legal configured place olds news closed s.served s.entries
  pub failed : s.fault ≡ true → SomeFailed t olds news
  pub well : s.fault ≡ false → AllEndedWell t olds news

-- the first desks, at most so many
abbrev pub first_of : {X : Type 0} → ℕ → List X → List X
first_of n [] = []
first_of zero (desk ∷ desks) = []
first_of (suc n) (desk ∷ desks) = desk ∷ first_of n desks

-- What a server with these desks did. It has a worker at each of the first of them, as many as it may have. The others were dropped.
abbrev pub Summarises : {D L C W S K A R Core Setup : Type 0} → Telling D L C W S K → Manner A R → (Setup → ℕ) → (Core → Setup)
    → (Core → List (Pair A R)) → (Setup → List (Pair A R) → Type 0) → Setup → Text → List (Desk D L C W) → List (Desk D L C W)
    → Summary Core A R → Type 0
Summarises t m most setup history_of is_legal configured place olds news s =
    SummarisesDesks t m most setup history_of is_legal configured place (first_of m.workers olds) news s
