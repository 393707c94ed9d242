-- Slots, each with a value or free.
use Rattle.std.specs.Prelude.{◌≡◌, ◌≢◌, ◌<◌, ◌≤◌, ◌+◌, ◌^◌, ℕ, List, length, Option, Some, None, is_some, IsSome, count_by, slice_index_or, slice_set}
use Rattle.held_rows.specs.Counts.{count}

-- the value or nothing in each slot from 0 on, and how many values fit without allocation
pub record SlotList (T : Type 0) : Type 0 where
  pub slots : List (Option T)
  pub capacity : ℕ

-- the greatest number of slots
abbrev pub most_slots : ℕ
most_slots = 2 ^ 16

module _ {T : Type 0} where
  -- the value in a slot
  abbrev pub get : SlotList T → ℕ → Option T
  get s slot = slice_index_or s.slots slot None

  abbrev pub HasValue : SlotList T → ℕ → Type 0
  HasValue s slot = IsSome (get s slot)

  -- how many slots have a value
  abbrev pub value_count : SlotList T → ℕ
  value_count s = count_by is_some s.slots

  -- the slots after the value in an occupied slot is replaced
  abbrev pub with_value : SlotList T → ℕ → T → SlotList T
  with_value s slot value = record s { slots = slice_set s.slots slot (Some value) }

  -- the slot is free, and listed once
  pub record IsFree (slots : List (Option T)) (frees : List ℕ) (slot : ℕ) : Type 0 where
    pub once : count slot frees ≡ 1
    pub in_range : slot < length slots
    pub vacant : slice_index_or slots slot None ≡ None

  -- exactly the listed slots are free, and the list has room for all slots
  pub record IsSound (slots : List (Option T)) (frees : List ℕ) (room : ℕ) : Type 0 where
    pub listed : (slot : ℕ) → 0 < count slot frees → IsFree slots frees slot
    pub counted : count_by is_some slots + length frees ≡ length slots
    pub fits : length slots ≤ room

-- this slot now has the value, and every other slot has what it had
pub record Changes {E : Type 0} (old new : ℕ → Option E) (slot : ℕ) (value : Option E) : Type 0 where
  pub changed : new slot ≡ value
  pub others : (other : ℕ) → other ≢ slot → new other ≡ old other
