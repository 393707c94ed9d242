-- The slots after a reference to one of their values has ended.
use Rattle.std.specs.Prelude.{ℕ}
use Rattle.std.specs.Borrow.{Lends, Fml, RattleType, MutBor}
use Rattle.held_rows.specs.SlotList.{SlotList, with_value}
use Rattle.held_rows.specs.contracts.slot_vec.SlotVec.{the_row}

-- the value in the slot is the last one written through r
abbrev pub lends_value : (T : RattleType) → MutBor (SlotList T.Denot) → ℕ → MutBor T.Denot → Fml
lends_value T s slot r = Lends (the_row T) T s r (with_value s.now slot)
