-- The terms of contracts about permits.
use Rattle.std.specs.Prelude.{◌≡◌, ℕ}
use Rattle.atomic_table.specs.declared.shared.Seat.{Seat}
use Rattle.work_permits.specs.declared.holder.Holder.{Holder}
use Rattle.work_permits.specs.declared.permits.Permits.{Permits}
use Rattle.work_permits.specs.declared.permits.Permit.{Permit}
use Rattle.work_permits.specs.declared.permits.AllTaken.{AllTaken}
use Rattle.work_permits.specs.Rule.{nobody, holding, turned_away}

-- how many there are
abbrev pub most_of : Permits → ℕ
most_of permits = permits.table.shared.key

-- a seat at the table of these permits that knows this
abbrev pub SeatedSo : (ℕ → Holder) → Permits → Seat (Unit {0}) Holder → Type 0
SeatedSo knows permits seat = (seat.table_id ≡ permits.table.shared.table_id) × (seat.me.0 ≡ knows (most_of permits))

abbrev pub SitsAt : Permits → Seat (Unit {0}) Holder → Type 0
SitsAt permits seat = SeatedSo nobody permits seat

-- it is one of these permits
abbrev pub IsPermitOf : Permits → Permit → Type 0
IsPermitOf permits permit = SeatedSo holding permits permit.seat

-- a look found that all of these permits were out
abbrev pub IsRefusalOf : Permits → AllTaken → Type 0
IsRefusalOf permits taken = SeatedSo turned_away permits taken.seat
