-- What the seat learns from each step on the table.
use Rattle.std.specs.Prelude.{◌≡◌, ◌≢◌, ◌≤◌, ℕ}
use Rattle.atomic_table.specs.Table.{Step, Me}
use Rattle.work_permits.specs.declared.holder.Holder.{Holder}
use Rattle.work_permits.specs.Rule.{nobody, holding, turned_away}

abbrev Mine : Type 0
Mine = Me (Unit {0}) Holder

-- a load, at which a new seat sits down
abbrev pub Sits : Step (Unit {0}) → Mine → ℕ → Mine → Type 0
Sits s before found after = after.0 ≡ before.0

-- a load: the seat learns whether all permits are out; there are never more
abbrev pub Looks : Step (Unit {0}) → Mine → ℕ → Mine → Type 0
Looks s before found after =
    (found ≤ before.0.most) × (found ≡ before.0.most → after.0 ≡ turned_away before.0.most) × (found ≢ before.0.most → after.0 ≡ before.0)

-- a compare-and-exchange, which takes a permit or changes nothing
abbrev pub Takes : Step (Unit {0}) → Mine → ℕ → Mine → Type 0
Takes s before found after = (found ≡ s.first → after.0 ≡ holding before.0.most) × (found ≢ s.first → after.0 ≡ before.0)

-- a subtraction, which gives the permit back
abbrev pub Gives : Step (Unit {0}) → Mine → ℕ → Mine → Type 0
Gives s before found after = after.0 ≡ nobody before.0.most
