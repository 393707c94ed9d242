-- How many workers may be behind a gate, and before it.
use Rattle.std.specs.Prelude.{◌≡◌, ℕ, ◌+◌, ◌-◌, ◌/◌, max}
use Rattle.work_permits.specs.declared.gate.Gate.{Gate}
use Rattle.work_permits.specs.declared.gate.Entered.{Entered}
use Rattle.work_permits.specs.declared.permits.AllTaken.{AllTaken}
use Rattle.work_permits.specs.Permitted.{most_of, IsPermitOf, IsRefusalOf}

-- half of the workers, and at least one
abbrev pub most_working : ℕ → ℕ
most_working workers = max (workers / 2) 1

-- half of the others may wait
abbrev pub most_inside : ℕ → ℕ
most_inside workers = most_working workers + (workers - most_working workers) / 2

-- the gate of so many workers
pub record IsGateFor (workers : ℕ) (gate : Gate) : Type 0 where
  pub working : most_of gate.working ≡ most_working workers
  pub inside : most_of gate.inside ≡ most_inside workers

-- a worker has entered there
pub record IsEnteredAt (gate : Gate) (entered : Entered) : Type 0 where
  pub inside : IsPermitOf gate.inside entered.inside
  pub working : IsPermitOf gate.working entered.working

-- a look found that as many workers were at work or waiting there as may be
abbrev pub IsTurnedAway : Gate → AllTaken → Type 0
IsTurnedAway gate taken = IsRefusalOf gate.inside taken
