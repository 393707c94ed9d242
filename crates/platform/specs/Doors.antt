-- What a door of the machine reports: its counts, and nothing else.
use Rattle.std.specs.Prelude.{ℕ, None}
use Rattle.server_desk.specs.Doors.{DoorState}

-- it gave so many connections, and so many of them are out
abbrev pub counted : {S K : Type 0} → ℕ → ℕ → DoorState S K
counted given out = record { place = None; coming = None; served = None; given = given; out = out }
