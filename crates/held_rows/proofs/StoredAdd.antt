-- A row was put in at the end.
use Rattle.std.proofs.Common.{◌≡◌, ◌≢◌, ◌<◌, ◌≤◌, ◌+◌, ℕ, true, List, [], ◌∷◌, ◌++◌, map, length, Option, Some, None, sym, ◌∙◌, ap, subst, arith}
use Rattle.std.proofs.lemmas.List.{append-nil}
use Rattle.sso_base.specs.Words.{Word}
use Rattle.sso_base.specs.Rows.{row_of}
use Rattle.held_rows.specs.declared.row.By.{By}
use Rattle.held_rows.specs.declared.row.By.TheVariants.{Name, Group, OtherGroup}
use Rattle.held_rows.specs.declared.stored.Issued.{Issued}
use Rattle.held_rows.specs.declared.stored.Stored.{Stored}
use Rattle.held_rows.specs.Counts.{count, Lists}
use Rattle.held_rows.specs.Held.{IsHeld, none_after, most_rows}
use Rattle.held_rows.specs.Index.{issued_row, issued_serial, row_at, serial_at, rows_at, IsIndex, IsRising, IsBounded, IsStored, HasMemoryFor, stored_rows, stored_capacity}
use Rattle.held_rows.specs.SlotList.{get, value_count, Changes}
use Rattle.held_rows.proofs.Counts.{rows_same, rows-middle, listed_none, lists_put}
use Rattle.held_rows.proofs.HeldLaws.{held_push}
use Rattle.std.proofs.lemmas.List.{length_push}
use Rattle.held_rows.proofs.Serials.{pushed_rising, pushed_bounded, all_below}
use Rattle.held_rows.proofs.Parts.{row_changes, other_serials}

module _ {R : Type 0} (name : R → Word) (key : By → R → Option (List ℕ)) (begun : R → ℕ) (IsSound : R → Type 0) (s : Stored R) (stored : IsStored name key begun IsSound s) (s' : Stored R) (slot : ℕ) (i : Issued R) (was : get s.slots slot ≡ None) (changes : Changes (get s.slots) (get s'.slots) slot (Some i)) where
  abbrev f : ℕ → Option R
  f = row_at s.slots

  abbrev g : ℕ → Option R
  g = row_at s'.slots

  puts : Changes f g slot (Some i.row)
  puts = row_changes s.slots s'.slots slot (Some i) changes

  unlisted : (t : ℕ) → 0 < count t s.by_issue.items → t ≢ slot
  unlisted t h same =
      let none = listed_none f s.by_issue.items stored.issued slot (ap issued_row was) in
      let C : ℕ → Type 0 = λ x. 0 < count x s.by_issue.items in
      let there : 0 < count slot s.by_issue.items = subst C same h in
      omega (arith, none)

  module _ (items : s'.by_issue.items ≡ s.by_issue.items ++ slot ∷ []) where
    pub rows_added : stored_rows s' ≡ stored_rows s ++ i.row ∷ []
    rows_added =
        ap (rows_at s'.slots) items
        ∙ rows-middle g s.by_issue.items slot [] i.row puts.changed
        ∙ ap (λ (rows : List R). rows ++ i.row ∷ []) (rows_same f g s.by_issue.items (λ t h. puts.others t (unlisted t h)))

    pub stored_added : i.serial ≡ s.next → i.serial ≤ s'.next → value_count s'.slots ≡ value_count s.slots + 1
        → IsIndex (key Name) g s'.by_name.items → IsIndex (key Group) g s'.by_group.items → IsIndex (key OtherGroup) g s'.by_other.items
        → length (stored_rows s) < most_rows → row_of name (name i.row) (stored_rows s) ≡ None → none_after begun (begun i.row) (stored_rows s) ≡ true → IsSound i.row
        → length (stored_rows s) < stored_capacity s → stored_capacity s' ≡ stored_capacity s → HasMemoryFor (stored_capacity s') s'
        → IsStored name key begun IsSound s'
    stored_added serial next one_more names groups other_groups few unnamed latest sound reserved capacity memory =
        let n : ℕ → ℕ = serial_at s.slots in
        let m : ℕ → ℕ = serial_at s'.slots in
        let others : (t : ℕ) → 0 < count t s.by_issue.items → m t ≡ n t = λ t h. other_serials s.slots s'.slots slot (Some i) changes t (unlisted t h) in
        let here : m slot ≡ i.serial = ap issued_serial changes.changed in
        let low : IsBounded n s.by_issue.items i.serial = subst (IsBounded n s.by_issue.items) (sym serial) stored.bounded in
        let longer : length s'.by_issue.items ≡ length s.by_issue.items + 1 = ap length items ∙ length_push s.by_issue.items slot in
        let counted = stored.counted in
        let more = ap length rows_added in
        let one = length_push (stored_rows s) i.row in
        record {
          issued = subst (Lists g) (sym items) (lists_put f g s.by_issue.items slot [] i.row (subst (Lists f) (sym (append-nil s.by_issue.items)) stored.issued) (ap issued_row was) puts.changed puts.others);
          rising = subst (λ (is : List ℕ). IsRising (map m is)) (sym items) (pushed_rising n m s.by_issue.items slot i.serial others here stored.rising low);
          bounded = subst (λ (is : List ℕ). IsBounded m is s'.next) (sym items) (all_below i.serial s'.next (map m (s.by_issue.items ++ slot ∷ [])) next (pushed_bounded n m s.by_issue.items slot i.serial others here low));
          counted = omega (arith, one_more, counted, longer);
          names = names;
          groups = groups;
          other_groups = other_groups;
          held = subst (IsHeld name begun IsSound) (sym rows_added) (held_push name begun IsSound i.row (stored_rows s) stored.held few unnamed latest sound);
          fits = omega (arith, more, one, reserved, capacity);
          memory = memory;
        }
