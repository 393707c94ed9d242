-- What doors give and take back, if it is known. What a door holds is an option: it is unknown for a real door.
use Rattle.std.specs.Prelude.{◌≡◌, ℕ, ◌+◌, ◌-◌, ◌^◌, min, List, [], ◌∷◌, ◌++◌, Option, Some, None, option_map}
use Rattle.sso_base.specs.Words.{Text}
use Rattle.server_desk.specs.declared.connection.Connection.{Connection}

-- a door: the place at which it listens, the connections to come, those that were given back, the number that it gave, and of
-- these the number that are out
pub record DoorState (S K : Type 0) : Type 0 where
  pub place : Option Text
  pub coming : Option (List (Connection S K))
  pub served : Option (List (Connection S K))
  pub given : ℕ
  pub out : ℕ

-- a door in memory: the place at which it listens (empty before a start), the connections to come, those that were given back,
-- the number that it gave, the number that are out, how often it reported that it is closed, and how often it failed
pub record DoorMemory (S K : Type 0) : Type 0 where
  pub place : Text
  pub coming : List (Connection S K)
  pub served : List (Connection S K)
  pub given : ℕ
  pub out : ℕ
  pub closings : ℕ
  pub faults : ℕ

-- a door in memory whose calls with some numbers fail, from 1: the door, those numbers, and its number of calls
pub record FaultyDoorMemory (S K : Type 0) : Type 0 where
  pub door : DoorMemory S K
  pub failing : List ℕ
  pub calls : ℕ

-- a 64-bit counter after one more step; it stops at its maximum
abbrev pub grown : ℕ → ℕ
grown count = min (count + 1) (2 ^ 64 - 1)

module _ {S K : Type 0} where
  -- it listens at this place
  abbrev pub started : DoorState S K → Text → DoorState S K
  started door place = record door { place = option_map (λ before. place) door.place }

  -- it listens at the place of the other door
  abbrev pub shared : DoorState S K → DoorState S K → DoorState S K
  shared door first = record door { place = first.place }

  -- it gave this connection
  pub record GaveConnection (old new : DoorState S K) (connection : Connection S K) : Type 0 where
    pub coming : old.coming ≡ option_map (λ rest. connection ∷ rest) new.coming
    pub rest : new ≡ record old { coming = new.coming; given = grown old.given; out = grown old.out }

  -- it took this connection back
  abbrev pub with_served : DoorState S K → Connection S K → DoorState S K
  with_served door connection = record door { served = option_map (λ before. before ++ connection ∷ []) door.served; out = door.out - 1 }

  -- the state of a door in memory: all of it is known
  abbrev pub told_state : DoorMemory S K → DoorState S K
  told_state door = record { place = Some door.place; coming = Some door.coming; served = Some door.served; given = door.given; out = door.out }

  -- a door that was not called yet
  abbrev pub new_door : List (Connection S K) → DoorMemory S K
  new_door coming = record { place = []; coming = coming; served = []; given = 0; out = 0; closings = 0; faults = 0 }

  -- it failed once more
  abbrev pub with_fault : DoorMemory S K → DoorMemory S K
  with_fault door = record door { faults = grown door.faults }

  -- it gave the first connection to come; if there was none, it reported that it is closed
  abbrev pub GaveFirst : DoorMemory S K → DoorMemory S K → Option (Connection S K) → Type 0
  GaveFirst old new (Some connection) =
      (old.coming ≡ connection ∷ new.coming) × (new ≡ record old { coming = new.coming; given = grown old.given; out = grown old.out })
  GaveFirst old new None = (old.coming ≡ []) × (new ≡ record old { closings = grown old.closings })

  -- it took this connection back, after those that were given back before
  abbrev pub with_back : DoorMemory S K → Connection S K → DoorMemory S K
  with_back door connection = record door { served = door.served ++ connection ∷ []; out = door.out - 1 }
