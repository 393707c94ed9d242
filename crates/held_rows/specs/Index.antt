-- Rows in slots, and deques of slot numbers over them: one in the order of issue, and one for each key, in the order of the
-- key's bytes.
use Rattle.std.specs.Prelude.{◌≡◌, ◌<◌, ◌≤◌, ◌==◌, ℕ, suc, List, [], ◌∷◌, ◌++◌, map, length, slice_index, slice_index_or, Option, Some, None, option_map}
use Rattle.std.specs.Prelude.{option_and_then, unwrap_or, if◌then◌else◌, IfSome, IsSome, is_some, Bool, true, false, ◌+◌}
use Rattle.std.specs.List.{AllByRecursion, filter_map}
use Rattle.std.specs.Cmp.Lexicographic.{slice_cmp}
use Rattle.std.specs.Ordering.{nat_cmp}
use Rattle.std.specs.VecDeque.{deque_capacity}
use Rattle.std.specs.declared.cmp.Ordering.TheVariants.{Less, Greater}
use Rattle.sso_base.specs.Rows.{lives}
use Rattle.held_rows.specs.declared.row.By.{By}
use Rattle.held_rows.specs.declared.row.By.TheVariants.{Name, Group, OtherGroup}
use Rattle.held_rows.specs.declared.stored.Issued.{Issued}
use Rattle.held_rows.specs.declared.stored.Stored.{Stored}
use Rattle.held_rows.specs.Counts.{Lists}
use Rattle.held_rows.specs.Held.{IsHeld}
use Rattle.held_rows.specs.SlotList.{SlotList, get, value_count, Changes}

-- ---- the contents of slots: rows with serial numbers

abbrev pub issued_row : {R : Type 0} → Option (Issued R) → Option R
issued_row issued = option_map (λ i. i.row) issued

-- 0 for a free slot
abbrev pub issued_serial : {R : Type 0} → Option (Issued R) → ℕ
issued_serial None = 0
issued_serial (Some issued) = issued.serial

module _ {R : Type 0} (slots : SlotList (Issued R)) where
  abbrev pub row_at : ℕ → Option R
  row_at slot = issued_row (get slots slot)

  abbrev pub serial_at : ℕ → ℕ
  serial_at slot = issued_serial (get slots slot)

  -- the rows in these slots, in their order
  abbrev pub rows_at : List ℕ → List R
  rows_at numbers = filter_map row_at numbers

-- the rows in slots, without one slot
abbrev pub all_but : {R : Type 0} → ℕ → (ℕ → Option R) → ℕ → Option R
all_but slot row other = if other == slot then None else row other

-- what a slot has after the rows that pass were removed
abbrev pub left : {R : Type 0} → (R → Bool) → Option (Issued R) → Option (Issued R)
left p None = None
left p (Some issued) = if p issued.row then None else Some issued

-- a slot whose row passes
abbrev pub hit_of : {R : Type 0} → (R → Bool) → Option R → Bool
hit_of p None = false
hit_of p (Some row) = p row

abbrev pub hit : {R : Type 0} → (R → Bool) → (ℕ → Option R) → ℕ → Bool
hit p row slot = hit_of p (row slot)

-- where the row in a slot passes it was removed, and one was counted, and else nothing
pub record IsEmptied {R : Type 0} (p : R → Bool) (old new : SlotList (Issued R)) (slot number : ℕ) : Type 0 where
  pub one : hit p (row_at old) slot ≡ true → number ≡ 1
  pub changes : hit p (row_at old) slot ≡ true → Changes (get old) (get new) slot None
  pub fewer : hit p (row_at old) slot ≡ true → value_count new + 1 ≡ value_count old
  pub none : hit p (row_at old) slot ≡ false → number ≡ 0
  pub same : hit p (row_at old) slot ≡ false → new ≡ old
  pub capacity : new.capacity ≡ old.capacity

-- the slots that have a row
abbrev pub has_row : {R : Type 0} → SlotList (Issued R) → ℕ → Bool
has_row slots slot = is_some (row_at slots slot)

-- ---- an index: `row` gives the row in each slot, and `key` a key of a row

-- Ranks are ordered by the bytes and then by the slot. Bytes are raised by one, so 0 marks their end.
abbrev pub rank : List ℕ → ℕ → List ℕ
rank bytes slot = map suc bytes ++ 0 ∷ slot ∷ []

-- each rank is below those after it
abbrev pub IsAscending : List (List ℕ) → Type 0
IsAscending [] = Unit {0}
IsAscending (r ∷ rs) = AllByRecursion (λ later. slice_cmp nat_cmp r later ≡ Less) rs × IsAscending rs

module _ {R : Type 0} (key : R → Option (List ℕ)) (row : ℕ → Option R) where
  abbrev pub key_in : ℕ → Option (List ℕ)
  key_in slot = option_and_then key (row slot)

  abbrev pub rank_in : ℕ → List ℕ
  rank_in slot = rank (unwrap_or (key_in slot) []) slot

  -- the slots of the rows that have such a key, each once, in the order of their ranks
  pub record IsIndex (index : List ℕ) : Type 0 where
    pub listed : Lists key_in index
    pub ascending : IsAscending (map rank_in index)

  -- the slots of the rows with these bytes begin at this position, if there are any
  pub record IsStart (index bytes : List ℕ) (place : ℕ) : Type 0 where
    pub in_range : place ≤ length index
    pub before : (k d : ℕ) → k < place → key_in (slice_index_or index k d) ≡ Some bytes → ⊥
    pub run : (j k d : ℕ) → place ≤ j → j ≤ k → k < length index → key_in (slice_index_or index k d) ≡ Some bytes
        → key_in (slice_index_or index j d) ≡ Some bytes

  -- a rank is at this position, or would be inserted there
  pub record IsPlace (index wanted : List ℕ) (place : ℕ) : Type 0 where
    pub in_range : place < length index
    pub same : rank_in (slice_index index place) ≡ wanted

  pub record IsGap (index wanted : List ℕ) (place : ℕ) : Type 0 where
    pub in_range : place ≤ length index
    pub before : (k d : ℕ) → k < place → slice_cmp nat_cmp (rank_in (slice_index_or index k d)) wanted ≡ Less
    pub after : (k d : ℕ) → place ≤ k → k < length index → slice_cmp nat_cmp (rank_in (slice_index_or index k d)) wanted ≡ Greater

-- ---- order of issue

-- no number is below an earlier one
abbrev pub IsRising : List ℕ → Type 0
IsRising [] = Unit {0}
IsRising (n ∷ ns) = AllByRecursion (λ later. n ≤ later) ns × IsRising ns

-- no serial number is above this one
abbrev pub IsBounded : (ℕ → ℕ) → List ℕ → ℕ → Type 0
IsBounded serial by_issue next = AllByRecursion (λ n. n ≤ next) (map serial by_issue)

-- ---- the invariant

abbrev pub stored_rows : {R : Type 0} → Stored R → List R
stored_rows s = rows_at s.slots s.by_issue.items

-- the slot has this row
abbrev pub IsRowAt : {R : Type 0} → Stored R → ℕ → Option R → Type 0
IsRowAt s slot row = IsSome (row_at s.slots slot) × (row_at s.slots slot ≡ row)

-- the slot has a row whose life is over
abbrev pub IsOverAt : {R : Type 0} → Stored R → ℕ → ℕ → (R → ℕ) → ℕ → Type 0
IsOverAt s slot life begun at =
    IsSome (row_at s.slots slot) × IfSome (row_at s.slots slot) (λ row. lives life (begun row) at ≡ false)

-- the number of rows that there is memory for
abbrev pub stored_capacity : {R : Type 0} → Stored R → ℕ
stored_capacity s = s.room

-- there is memory for as many rows in each part
pub record HasMemoryFor {R : Type 0} (most : ℕ) (s : Stored R) : Type 0 where
  pub slots : most ≤ s.slots.capacity
  pub issue : most ≤ deque_capacity s.by_issue
  pub names : most ≤ deque_capacity s.by_name
  pub groups : most ≤ deque_capacity s.by_group
  pub other_groups : most ≤ deque_capacity s.by_other

pub record IsStored {R : Type 0} (name : R → List ℕ) (key : By → R → Option (List ℕ)) (begun : R → ℕ) (IsSound : R → Type 0) (s : Stored R) : Type 0 where
  pub issued : Lists (row_at s.slots) s.by_issue.items
  pub rising : IsRising (map (serial_at s.slots) s.by_issue.items)
  pub bounded : IsBounded (serial_at s.slots) s.by_issue.items s.next
  pub counted : value_count s.slots ≡ length s.by_issue.items
  pub names : IsIndex (key Name) (row_at s.slots) s.by_name.items
  pub groups : IsIndex (key Group) (row_at s.slots) s.by_group.items
  pub other_groups : IsIndex (key OtherGroup) (row_at s.slots) s.by_other.items
  pub held : IsHeld name begun IsSound (stored_rows s)
  pub fits : length (stored_rows s) ≤ stored_capacity s
  pub memory : HasMemoryFor (stored_capacity s) s

-- ---- one row among others

-- the row was removed
pub record IsRemoved {R : Type 0} (old new : List R) (row : R) : Type 0 where
  pub before : List R
  pub behind : List R
  pub was : old ≡ before ++ row ∷ behind
  pub is : new ≡ before ++ behind

-- another row took its place
pub record IsReplaced {R : Type 0} (old new : List R) (row other : R) : Type 0 where
  pub before : List R
  pub behind : List R
  pub was : old ≡ before ++ row ∷ behind
  pub is : new ≡ before ++ other ∷ behind
