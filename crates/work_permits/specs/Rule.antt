-- The rule of permits, about the table's word and what all seats know. The word is the number of permits that are out, which is the
-- number of seats that have one. It is never more than there are.
use Rattle.std.specs.Prelude.{◌≡◌, ℕ, ◌+◌, ◌≤◌, Bool, true, false, List, [], ◌∷◌, length, slice_index}
use Rattle.atomic_table.specs.Table.{State}
use Rattle.work_permits.specs.declared.holder.Holder.{Holder}

-- a seat that knows how many permits there are, and nothing else; one with a permit; and one that found all permits taken
abbrev pub nobody : ℕ → Holder
nobody most = record { most = most; holds = false; found_all = false }

abbrev pub holding : ℕ → Holder
holding most = record { most = most; holds = true; found_all = false }

abbrev pub turned_away : ℕ → Holder
turned_away most = record { most = most; holds = false; found_all = true }

abbrev pub one_if : Bool → ℕ
one_if true = 1
one_if false = 0

-- the number of seats that have a permit
abbrev pub holding_in : List Holder → ℕ
holding_in [] = 0
holding_in (h ∷ hs) = one_if h.holds + holding_in hs

pub record KeepsCount (most : ℕ) (s : State (Unit {0}) Holder) : Type 0 where
  pub one : length s.words ≡ 1
  pub out : slice_index s.words 0 ≡ holding_in s.views
  pub few : holding_in s.views ≤ most
