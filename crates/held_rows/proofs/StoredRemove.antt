-- The row in a slot was taken out.
use Rattle.std.proofs.Common.{◌≡◌, ◌≢◌, ◌<◌, ◌+◌, ℕ, suc, List, ◌∷◌, ◌++◌, map, take, drop, get_or, length, Option, Some, None, option_and_then, sym, ◌∙◌, ap, subst, arith}
use Rattle.std.proofs.lemmas.List.Elements.{filter_map-append}
use Rattle.sso_base.specs.Words.{Word}
use Rattle.held_rows.specs.declared.row.By.{By}
use Rattle.held_rows.specs.declared.row.By.TheVariants.{Name, Group, OtherGroup}
use Rattle.held_rows.specs.declared.stored.Issued.{Issued}
use Rattle.held_rows.specs.declared.stored.Stored.{Stored}
use Rattle.held_rows.specs.Counts.{count, Lists}
use Rattle.held_rows.specs.Held.{IsHeld}
use Rattle.held_rows.specs.Index.{issued_row, row_at, serial_at, rows_at, all_but, IsIndex, IsRising, IsBounded, IsStored, IsRemoved, HasMemoryFor, stored_rows, stored_capacity}
use Rattle.held_rows.specs.SlotList.{get, value_count, Changes}
use Rattle.held_rows.proofs.Counts.{split_place, length-middle, rows_same, rows-middle, lists_taken, others_differ}
use Rattle.held_rows.proofs.Ends.{length_removed}
use Rattle.held_rows.proofs.HeldLaws.{held_without}
use Rattle.held_rows.proofs.Middles.{without-middle}
use Rattle.held_rows.proofs.Serials.{taken_rising, taken_bounded}
use Rattle.held_rows.proofs.Parts.{index_same, but_taken, row_changes, other_serials}

module _ {R : Type 0} (name : R → Word) (key : By → R → Option (List ℕ)) (begun : R → ℕ) (IsSound : R → Type 0) (s : Stored R) (stored : IsStored name key begun IsSound s) (slot : ℕ) (i : Issued R) (was : get s.slots slot ≡ Some i)
    (s' : Stored R) (changes : Changes (get s.slots) (get s'.slots) slot None) (j : ℕ) (within_issue : j < length s.by_issue.items) (there : get_or s.by_issue.items j 0 ≡ slot)
    (items : s'.by_issue.items ≡ take j s.by_issue.items ++ drop (suc j) s.by_issue.items) where
  abbrev f : ℕ → Option R
  f = row_at s.slots

  abbrev g : ℕ → Option R
  g = row_at s'.slots

  abbrev a : List ℕ
  a = take j s.by_issue.items

  abbrev b : List ℕ
  b = drop (suc j) s.by_issue.items

  takes : Changes f g slot None
  takes = row_changes s.slots s'.slots slot None changes

  whole : s.by_issue.items ≡ a ++ slot ∷ b
  whole = sym (split_place s.by_issue.items j 0 within_issue) ∙ ap (λ (x : ℕ). a ++ x ∷ b) there

  lists : Lists f (a ++ slot ∷ b)
  lists = subst (Lists f) whole stored.issued

  differ : (t : ℕ) → 0 < count t (a ++ b) → t ≢ slot
  differ t h = others_differ f a slot b i.row lists (ap issued_row was) t h

  rows_before : stored_rows s ≡ rows_at s.slots a ++ i.row ∷ rows_at s.slots b
  rows_before = ap (rows_at s.slots) whole ∙ rows-middle f a slot b i.row (ap issued_row was)

  rows_left : stored_rows s' ≡ rows_at s.slots a ++ rows_at s.slots b
  rows_left = ap (rows_at s'.slots) items ∙ rows_same f g (a ++ b) (λ t h. takes.others t (differ t h)) ∙ filter_map-append f a b

  pub row_removed : IsRemoved (stored_rows s) (stored_rows s') i.row
  row_removed = record { before = rows_at s.slots a; behind = rows_at s.slots b; was = rows_before; is = rows_left }

  index_after : (by : By) (index : List ℕ) → IsIndex (key by) (all_but slot f) index → IsIndex (key by) g index
  index_after by index i' =
      index_same (key by) (all_but slot f) g index (λ t. ap (λ (o : Option R). option_and_then (key by) o) (but_taken f g slot takes t)) i'

  held_left : IsHeld name begun IsSound (stored_rows s')
  held_left =
      let H : List R → Type 0 = IsHeld name begun IsSound in
      let held : H (rows_at s.slots a ++ i.row ∷ rows_at s.slots b) = subst H rows_before stored.held in
      let left : H (rows_at s.slots a ++ rows_at s.slots b) =
      subst H (without-middle name (rows_at s.slots a) i.row (rows_at s.slots b) held.distinct)
      (held_without name begun IsSound (name i.row) (rows_at s.slots a ++ i.row ∷ rows_at s.slots b) held) in
      subst H (sym rows_left) left

  pub stored_removed : s'.next ≡ s.next → value_count s'.slots + 1 ≡ value_count s.slots
      → IsIndex (key Name) (all_but slot f) s'.by_name.items → IsIndex (key Group) (all_but slot f) s'.by_group.items → IsIndex (key OtherGroup) (all_but slot f) s'.by_other.items
      → stored_capacity s' ≡ stored_capacity s → HasMemoryFor (stored_capacity s') s' → IsStored name key begun IsSound s'
  stored_removed next one_less names groups other_groups capacity memory =
      let n : ℕ → ℕ = serial_at s.slots in
      let m : ℕ → ℕ = serial_at s'.slots in
      let others : (t : ℕ) → 0 < count t (a ++ b) → m t ≡ n t = λ t h. other_serials s.slots s'.slots slot None changes t (differ t h) in
      let long : length s.by_issue.items ≡ suc (length (a ++ b)) = ap length whole ∙ length-middle a slot b in
      let long' : length s'.by_issue.items ≡ length (a ++ b) = ap length items in
      let counted = stored.counted in
      let low : IsBounded n s.by_issue.items s'.next = subst (IsBounded n s.by_issue.items) (sym next) stored.bounded in
      let fits = stored.fits in
      let less = length_removed (stored_rows s) (stored_rows s') i.row row_removed in
      record {
        issued = subst (Lists g) (sym items) (lists_taken f g a slot b i.row lists (ap issued_row was) takes.changed takes.others);
        rising = subst (λ (is : List ℕ). IsRising (map m is)) (sym items) (taken_rising n m a slot b others (subst (λ (is : List ℕ). IsRising (map n is)) whole stored.rising));
        bounded = subst (λ (is : List ℕ). IsBounded m is s'.next) (sym items) (taken_bounded n m a slot b s'.next others (subst (λ (is : List ℕ). IsBounded n is s'.next) whole low));
        counted = omega (arith, one_less, counted, long, long');
        names = index_after Name s'.by_name.items names;
        groups = index_after Group s'.by_group.items groups;
        other_groups = index_after OtherGroup s'.by_other.items other_groups;
        held = held_left;
        fits = omega (arith, fits, less, capacity);
        memory = memory;
      }
