-- The row in a slot was changed where it stands.
use Rattle.std.proofs.Common.{◌≡◌, ◌≢◌, ◌<◌, ℕ, List, ◌∷◌, ◌++◌, Option, Some, option_and_then, inl, inr, sym, ◌∙◌, ap, subst, arith}
use Rattle.std.specs.List.{filter_map}
use Rattle.sso_base.specs.Words.{Word}
use Rattle.held_rows.specs.declared.row.By.{By}
use Rattle.held_rows.specs.declared.row.By.TheVariants.{Name, Group, OtherGroup}
use Rattle.held_rows.specs.declared.stored.Issued.{Issued}
use Rattle.held_rows.specs.declared.stored.Stored.{Stored}
use Rattle.held_rows.specs.Counts.{count, Lists}
use Rattle.held_rows.specs.Held.{IsHeld}
use Rattle.held_rows.specs.Index.{issued_row, issued_serial, row_at, serial_at, rows_at, key_in, IsStored, IsReplaced, stored_rows}
use Rattle.held_rows.specs.SlotList.{SlotList, get, with_value, Changes}
use Rattle.held_rows.proofs.Counts.{same_or_other, split_count, count-append, rows_same, rows-middle, listed_row, lists_changed, others_differ}
use Rattle.held_rows.proofs.FreeSlots.{within, changes_set, count_set}
use Rattle.held_rows.proofs.Changing.{held_changed}
use Rattle.held_rows.proofs.Ends.{length_replaced}
use Rattle.held_rows.proofs.Middles.{written-middle}
use Rattle.held_rows.proofs.Serials.{same_rising, same_bounded}
use Rattle.held_rows.proofs.Parts.{index_same, row_changes, other_serials}

module _ {R : Type 0} (name : R → Word) (key : By → R → Option (List ℕ)) (begun : R → ℕ) (IsSound : R → Type 0) (s : Stored R) (stored : IsStored name key begun IsSound s) (slot : ℕ) (i : Issued R) (was : get s.slots slot ≡ Some i) (change : R → R) where
  abbrev other : Issued R
  other = record i { row = change i.row }

  abbrev new : SlotList (Issued R)
  new = with_value s.slots slot other

  abbrev f : ℕ → Option R
  f = row_at s.slots

  abbrev g : ℕ → Option R
  g = row_at new

  value_changes : Changes (get s.slots) (get new) slot (Some other)
  value_changes = changes_set s.slots.slots slot (Some other) (within s.slots.slots slot i was)

  writes : Changes f g slot (Some (change i.row))
  writes = row_changes s.slots new slot (Some other) value_changes

  parts : (a : List ℕ) × (b : List ℕ) × (s.by_issue.items ≡ a ++ slot ∷ b)
  parts = let once = listed_row f s.by_issue.items stored.issued slot i.row (ap issued_row was) in split_count slot s.by_issue.items (omega (arith, once))

  around : stored_rows s ≡ rows_at s.slots parts.0 ++ i.row ∷ rows_at s.slots parts.1
  around = ap (rows_at s.slots) parts.2 ∙ rows-middle f parts.0 slot parts.1 i.row (ap issued_row was)

  differs : (t : ℕ) → 0 < count t (parts.0 ++ parts.1) → t ≢ slot
  differs t h = others_differ f parts.0 slot parts.1 i.row (subst (Lists f) parts.2 stored.issued) (ap issued_row was) t h

  rows_changed : rows_at new s.by_issue.items ≡ rows_at s.slots parts.0 ++ change i.row ∷ rows_at s.slots parts.1
  rows_changed =
      let a = parts.0 in
      let b = parts.1 in
      ap (rows_at new) parts.2
      ∙ rows-middle g a slot b (change i.row) writes.changed
      ∙ ap (λ (rows : List R). rows ++ change i.row ∷ filter_map g b) (rows_same f g a (λ t h. writes.others t (differs t (omega (arith, count-append t a b)))))
      ∙ ap (λ (rows : List R). filter_map f a ++ change i.row ∷ rows) (rows_same f g b (λ t h. writes.others t (differs t (omega (arith, count-append t a b)))))

  pub row_replaced : IsReplaced (stored_rows s) (rows_at new s.by_issue.items) i.row (change i.row)
  row_replaced = record { before = rows_at s.slots parts.0; behind = rows_at s.slots parts.1; was = around; is = rows_changed }

  serials_stay : (t : ℕ) → serial_at new t ≡ serial_at s.slots t
  serials_stay t =
      let N : ℕ → ℕ = serial_at new in
      let S : ℕ → ℕ = serial_at s.slots in
      elim (same_or_other t slot) [
        | inl same ↦ ap N same.0 ∙ ap issued_serial value_changes.changed ∙ sym (ap issued_serial was) ∙ sym (ap S same.0)
        | inr away ↦ other_serials s.slots new slot (Some other) value_changes t away.0
      ]

  module _ (keys : (r : R) (by : By) → key by (change r) ≡ key by r) (named : (r : R) → key Name r ≡ Some (name r)) (moments : (r : R) → begun (change r) ≡ begun r) (sounds : (r : R) → IsSound r → IsSound (change r)) where
    names_stay : (r : R) → name (change r) ≡ name r
    names_stay r = let both : Some (name (change r)) ≡ Some (name r) = sym (named (change r)) ∙ keys r Name ∙ named r in cc

    keys_stay : (by : By) (t : ℕ) → key_in (key by) g t ≡ key_in (key by) f t
    keys_stay by t =
        let K : Option R → Option (List ℕ) = λ o. option_and_then (key by) o in
        let N : ℕ → Option (List ℕ) = key_in (key by) g in
        let S : ℕ → Option (List ℕ) = key_in (key by) f in
        elim (same_or_other t slot) [
          | inl same ↦ ap N same.0 ∙ ap K writes.changed ∙ keys i.row by ∙ sym (ap K (ap issued_row was)) ∙ sym (ap S same.0)
          | inr away ↦ ap K (writes.others t away.0)
        ]

    held_after : IsHeld name begun IsSound (rows_at new s.by_issue.items)
    held_after =
        let H : List R → Type 0 = IsHeld name begun IsSound in
        let xs = rows_at s.slots parts.0 in
        let ys = rows_at s.slots parts.1 in
        let held : H (xs ++ i.row ∷ ys) = subst H around stored.held in
        let changed : H (xs ++ change i.row ∷ ys) =
        subst H (written-middle name change xs i.row ys held.distinct)
        (held_changed name begun IsSound (name i.row) change (xs ++ i.row ∷ ys) names_stay moments sounds held) in
        subst H (sym rows_changed) changed

    pub stored_changed : IsStored name key begun IsSound (record s { slots = new })
    stored_changed =
        let counts = count_set s.slots.slots slot (Some i) (Some other) (within s.slots.slots slot i was) was in
        let counted = stored.counted in
        let fits = stored.fits in
        let as_many = length_replaced (stored_rows s) (rows_at new s.by_issue.items) i.row (change i.row) row_replaced in
        record {
          issued = lists_changed f g s.by_issue.items slot i.row (change i.row) stored.issued (ap issued_row was) writes.changed writes.others;
          rising = same_rising (serial_at s.slots) (serial_at new) s.by_issue.items (λ t h. serials_stay t) stored.rising;
          bounded = same_bounded (serial_at s.slots) (serial_at new) s.by_issue.items s.next (λ t h. serials_stay t) stored.bounded;
          counted = omega (arith, counts, counted);
          names = index_same (key Name) f g s.by_name.items (keys_stay Name) stored.names;
          groups = index_same (key Group) f g s.by_group.items (keys_stay Group) stored.groups;
          other_groups = index_same (key OtherGroup) f g s.by_other.items (keys_stay OtherGroup) stored.other_groups;
          held = held_after;
          fits = omega (arith, fits, as_many);
          memory = record { slots = stored.memory.slots; issue = stored.memory.issue; names = stored.memory.names; groups = stored.memory.groups; other_groups = stored.memory.other_groups };
        }
