-- The work of a worker: it serves the connections of a door, one after another.
use Rattle.std.specs.Prelude.{◌≡◌, ◌⊎◌, ◌≤◌, ℕ, ◌+◌, ◌*◌, List, [], ◌∷◌, ◌++◌, map, length, Option, option_map}
use Rattle.std.specs.List.{AllByRecursion, flat_map}
use Rattle.sso_base.specs.Faults.{Rose}
use Rattle.sso_base.specs.Words.{Word}
use Rattle.sso_base.specs.declared.history.Pair.{Pair}
use Rattle.server_desk.specs.Ahead.{MovedOn}
use Rattle.server_desk.specs.Doors.{DoorState}
use Rattle.server_desk.specs.Links.{LinkState}
use Rattle.server_desk.specs.declared.connection.Connection.{Connection}
use Rattle.serving.specs.declared.ends.Served as ends
use Rattle.serving.specs.declared.ends.ServedEnd.{ServedEnd}
use Rattle.serving.specs.declared.ends.ServedEnd.TheVariants.{Link}
use Rattle.serving.specs.LinkCalls.{LinkCall, TookCalls}
use Rattle.serving.specs.Manner.{Manner}
use Rattle.serving.specs.Serving.{Serves}
use Rattle.serving.specs.Steps.{Stepped}
use Rattle.serving.specs.Work.{Work, DrawnFrom}
use Rattle.serving.specs.declared.work.Next.{Next}
use Rattle.serving.specs.declared.work.Next.TheVariants.{Served, Closed, Fault}

-- the serving of one connection: the connection before and after, the work that was done for it, and how it ended
pub record Service (S K A R : Type 0) : Type 0 where
  pub came : Connection S K
  pub went : Connection S K
  pub work : Work A R
  pub served : ends.Served

module _ {S K A R : Type 0} where
  -- all steps, in their order
  abbrev pub steps_in : List (Service S K A R) → List (Stepped A R)
  steps_in services = flat_map (λ (s : Service S K A R). s.work.steps) services

  -- all calls of the link, in their order
  abbrev pub calls_in : List (Service S K A R) → List LinkCall
  calls_in services = flat_map (λ (s : Service S K A R). s.work.calls) services

  -- how often the clock was read
  abbrev pub readings_in : List (Service S K A R) → ℕ
  readings_in [] = 0
  readings_in (s ∷ services) = s.work.readings + readings_in services

  -- each step was called with the moment and the words of its own reading of the clock
  abbrev pub DrawnIn : (ℕ → Option ℕ) → (ℕ → Option Word) → ℕ → List (Service S K A R) → Type 0
  DrawnIn moments words reading [] = Unit {0}
  DrawnIn moments words reading (s ∷ services) =
      DrawnFrom moments words reading s.work.steps × (length s.work.steps ≤ s.work.readings)
      × DrawnIn moments words (reading + s.work.readings) services

  -- one of these connections ended this way
  abbrev pub SomeEnded : ServedEnd → List (Service S K A R) → Type 0
  SomeEnded end [] = ⊥
  SomeEnded end (s ∷ services) = (s.served.end ≡ end) ⊎ SomeEnded end services

  -- these connections were taken from the door and given back to it, in their order, and no others
  pub record Passed (door door' : DoorState S K) (services : List (Service S K A R)) : Type 0 where
    pub coming : door.coming ≡ option_map (λ rest. map (λ (s : Service S K A R). s.came) services ++ rest) door'.coming
    pub served : door'.served ≡ option_map (λ before. before ++ map (λ (s : Service S K A R). s.went) services) door.served
    pub given : door'.given ≡ door.given + length services

  module _ (m : Manner A R) (most : ℕ) (left : S → Option (List ℕ)) (read_faults : S → ℕ) (taken : K → Option (List ℕ)) (write_faults : K → ℕ) where
    -- each connection was served, and its steps are in this history, in their order
    abbrev pub ServesAll : List (Pair A R) → List (Service S K A R) → Type 0
    ServesAll history services =
        AllByRecursion
        (λ (s : Service S K A R). Serves m most left read_faults taken write_faults history s.came s.went s.work s.served)
        services

    -- that is all that was done with the door, the link, the clock and the draw of a desk; if a connection ended because of the
    -- link, the link failed
    pub record AtDesk
        (history : List (Pair A R)) (door door' : DoorState S K) (link link' : LinkState) (moments moments' : ℕ → Option ℕ)
        (words words' : ℕ → Option Word) (services : List (Service S K A R)) : Type 0 where
      pub passed : Passed door door' services
      pub sent : TookCalls link link' (calls_in services)
      pub drawn : DrawnIn moments words 0 services
      pub clock : MovedOn moments moments' (readings_in services)
      pub draw : MovedOn words words' (4 * readings_in services)
      pub served : ServesAll history services
      pub failed : SomeEnded Link services → Rose link.faults link'.faults

-- the number of connections that were served
abbrev pub IsNumber : Next → ℕ → Type 0
IsNumber Served count = count ≡ 1
IsNumber Closed count = count ≡ 0
IsNumber Fault count = count ≡ 0
