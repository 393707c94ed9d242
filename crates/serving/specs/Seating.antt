-- Seats: desks with their passes, at which workers serve concurrently.
use Rattle.std.specs.Prelude.{◌≡◌, ◌⊎◌, ◌≤◌, ℕ, Bool, true, false, List, [], ◌∷◌, length, ◌<◌, ◌^◌}
use Rattle.sso_base.specs.Faults.{Rose}
use Rattle.sso_base.specs.Words.{Text}
use Rattle.sso_base.specs.declared.history.Pair.{Pair}
use Rattle.server_desk.specs.Doors.{DoorState, started, shared}
use Rattle.server_desk.specs.declared.desk.Desk.{Desk}
use Rattle.turn_store.specs.declared.store.Pass.{Pass}
use Rattle.turn_store.specs.Passes.{number_of, front_of, IsPassOf}
use Rattle.turn_store.specs.declared.store.Turn.{Turn}
use Rattle.serving.specs.declared.seats.Seat.{Seat}
use Rattle.serving.specs.declared.work.WorkEnd.{WorkEnd}
use Rattle.serving.specs.declared.work.WorkEnd.TheVariants.{DoorFault}
use Rattle.serving.specs.Manner.{Manner}
use Rattle.serving.specs.Summaries.{Telling, ServedAt, Failed, EndedWell}
use Rattle.serving.specs.Work.{MadeAll}
use Rattle.serving.specs.Working.{Service, steps_in}

abbrev pub is_fault : WorkEnd → Bool
is_fault DoorFault = true
is_fault end = false

module _ {O A R D L C W : Type 0} where
  abbrev pub new_seat : Desk D L C W → Pass O A R → Seat O D L C W A R
  new_seat desk pass = record { desk = desk; pass = pass; listens = false; worked = record { served = 0; end = DoorFault } }

  -- desks with passes, in their order
  abbrev pub seated : List (Desk D L C W) → List (Pass O A R) → List (Seat O D L C W A R)
  seated (desk ∷ desks) (pass ∷ passes) = new_seat desk pass ∷ seated desks passes
  seated desks passes = []

  -- serving ended there since the door failed, or could not listen
  abbrev pub is_left : Seat O D L C W A R → Bool
  is_left seat = is_fault seat.worked.end

  -- the other parts of a seat are unchanged
  pub record SameSeat (old new : Seat O D L C W A R) : Type 0 where
    pub link : new.desk.tools.link ≡ old.desk.tools.link
    pub clock : new.desk.tools.clock ≡ old.desk.tools.clock
    pub draw : new.desk.tools.draw ≡ old.desk.tools.draw
    pub turns : new.desk.turns ≡ old.desk.turns
    pub pass : new.pass ≡ old.pass
    pub worked : new.worked ≡ old.worked

  module _ {S K : Type 0} (state : D → DoorState S K) (closings faults : D → ℕ) where
    -- either the door now listens and has this state, or it failed
    pub record OpenedSo (so : DoorState S K → DoorState S K) (old new : Seat O D L C W A R) : Type 0 where
      pub same : SameSeat old new
      pub later : (closings old.desk.door ≤ closings new.desk.door) × (faults old.desk.door ≤ faults new.desk.door)
      pub opened :
          ((new.listens ≡ true) × (state new.desk.door ≡ so (state old.desk.door)))
          ⊎ ((new.listens ≡ false) × (state new.desk.door ≡ state old.desk.door) × Rose (faults old.desk.door) (faults new.desk.door))

    abbrev pub AllOpened : (DoorState S K → DoorState S K) → List (Seat O D L C W A R) → List (Seat O D L C W A R) → Type 0
    AllOpened so [] [] = Unit {0}
    AllOpened so (old ∷ olds) (new ∷ news) = OpenedSo so old new × AllOpened so olds news
    AllOpened so olds news = ⊥

    -- the first door was started at the place, and the others shared its address; if it failed, the others are unchanged
    abbrev pub Opened : Text → List (Seat O D L C W A R) → List (Seat O D L C W A R) → Type 0
    Opened place (old ∷ olds) (new ∷ news) =
        OpenedSo (λ door. started door place) old new
        × (new.listens ≡ true → AllOpened (λ door. shared door (state new.desk.door)) olds news)
        × (new.listens ≡ false → news ≡ olds)
    Opened place olds news = ⊥

  -- The work at one seat. If its door does not listen, nothing was done.
  pub record SeatServed {S K : Type 0} (t : Telling D L C W S K) (m : Manner A R) (most : ℕ) (old new : Seat O D L C W A R) : Type 0 where
    pub services : List (Service S K A R)
    pub number : number_of new.pass ≡ number_of old.pass
    pub made : MadeAll old.pass new.pass (steps_in services)
    pub served : ServedAt t m most (front_of new.pass) old.desk new.desk services
    pub count : new.worked.served ≡ length services
    pub bound : new.worked.served ≤ old.desk.turns
    pub turns : new.desk.turns ≡ old.desk.turns
    pub place : (t.state new.desk.door).place ≡ (t.state old.desk.door).place
    pub is_listening : new.listens ≡ old.listens
    pub later : (t.closings old.desk.door ≤ t.closings new.desk.door) × (t.door_faults old.desk.door ≤ t.door_faults new.desk.door)
    pub idle : old.listens ≡ false → (new ≡ old) × (services ≡ [])
    pub ended : old.listens ≡ true
        → ((new.worked.end ≡ DoorFault) × Failed t old.desk new.desk)
        ⊎ ((is_fault new.worked.end ≡ false) × EndedWell t old.desk new.desk)

  abbrev pub SeatsServed : {S K : Type 0} → Telling D L C W S K → Manner A R → ℕ → List (Seat O D L C W A R) → List (Seat O D L C W A R) → Type 0
  SeatsServed t m most [] [] = Unit {0}
  SeatsServed t m most (old ∷ olds) (new ∷ news) = SeatServed t m most old new × SeatsServed t m most olds news
  SeatsServed t m most olds news = ⊥

  -- the doors were opened, and then all open seats were served
  abbrev pub OpenedAndServed : {S K : Type 0} → Telling D L C W S K → Manner A R → ℕ → Text → List (Seat O D L C W A R) → List (Seat O D L C W A R)
      → Type 0
  OpenedAndServed t m most place olds news =
      (opened : List (Seat O D L C W A R)) × Opened t.state t.closings t.door_faults place olds opened
      × SeatsServed t m most opened news

-- a seat at which nobody has served: its pass is of this store, and its door and its desk have room for all turns
abbrev pub MayServe : {O Setup A R D L C W S K : Type 0} → (O → Setup) → (Setup → List (Pair A R) → Type 0)
    → (D → DoorState S K) → Turn O A R → Seat O D L C W A R → Type 0
MayServe setup is_legal state store seat =
    IsPassOf setup is_legal store seat.pass × ((state seat.desk.door).given < 2 ^ 63) × (seat.desk.turns ≤ 2 ^ 56)
    × (seat.worked.served ≡ 0)
