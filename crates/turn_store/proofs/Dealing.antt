-- How the passes of a new store are dealt.
use Rattle.std.proofs.Common.{◌≡◌, ℕ, zero, suc, ◌+◌, List, [], ◌∷◌, ◌++◌, map, length, Option, refl, sym, ap, ◌∙◌, subst, arith, length-append}
use Rattle.std.proofs.lemmas.List.{map-append}
use Rattle.atomic_table.specs.Table.{Me}
use Rattle.atomic_table.specs.Seated.{TableId}
use Rattle.sso_base.specs.declared.history.Pair.{Pair}
use Rattle.turn_store.specs.declared.view.SeatView.{SeatView}
use Rattle.turn_store.specs.declared.store.Pass.{Pass}
use Rattle.turn_store.specs.declared.store.Turn.{Turn}
use Rattle.turn_store.specs.Places.{numbers_from, places_of}
use Rattle.turn_store.specs.Views.{idle, new_pass, new_passes, without_first, only_first}
use Rattle.turn_store.specs.Passes.{first_number, first_front, first_calls, number_of, front_of, calls_of, start_of, IsPassOf, HasDoneNothing}
use Rattle.turn_store.specs.Seats.{IsDealt}

-- one number more
numbers_more : (first count : ℕ) → numbers_from first count ++ (first + count) ∷ [] ≡ numbers_from first (suc count)
numbers_more first zero = let same : first + 0 ≡ first = omega arith in ap (λ (n : ℕ). n ∷ []) same
numbers_more first (suc count) =
    let same : first + suc count ≡ suc first + count = omega arith in
    ap (λ (l : List ℕ). first ∷ l) (ap (λ (n : ℕ). numbers_from (suc first) count ++ n ∷ []) same ∙ numbers_more (suc first) count)

pub numbers_length : (first count : ℕ) → length (numbers_from first count) ≡ count
numbers_length first zero = refl
numbers_length first (suc count) = ap suc (numbers_length (suc first) count)

pub one_longer : {A : Type 0} (xs : List A) (x : A) → length (xs ++ x ∷ []) ≡ suc (length xs)
one_longer xs x = omega (arith, length-append xs (x ∷ []))

pub numbers_grew : {C A R : Type 0} (ps : List (Pass C A R)) (p : Pass C A R) → map number_of ps ≡ numbers_from 0 (length ps) → number_of p ≡ length ps → map number_of (ps ++ p ∷ []) ≡ numbers_from 0 (length (ps ++ p ∷ []))
numbers_grew {C} {A} {R} ps p before is =
    let same : length ps ≡ 0 + length ps = omega arith in
    map-append (number_of {C = C} {A = A} {R = R}) ps (p ∷ []) ∙ (λ i. before i ++ (is ∙ same) i ∷ []) ∙ numbers_more 0 (length ps) ∙ ap (λ (n : ℕ). numbers_from 0 n) (sym (one_longer ps p))

module _ {C E : Type 0} (start : C) where
  -- the seat that deals, and the one that it dealt
  pub still_has : (old new : Me (Option C) (SeatView C E)) (first n m : ℕ) → n ≡ suc m → old ≡ (idle (new_passes start first n), []) → new ≡ (without_first old.0, old.1) → new ≡ (idle (new_passes start (suc first) m), [])
  still_has old new first n m size was is = is ∙ ap (λ (me : Me (Option C) (SeatView C E)). (without_first me.0, me.1)) (was ∙ ap (λ (k : ℕ). (idle (new_passes start first k), [])) size)

  pub was_dealt : (old new : Me (Option C) (SeatView C E)) (first n m : ℕ) → n ≡ suc m → old ≡ (idle (new_passes start first n), []) → new ≡ (only_first old.0, []) → new ≡ (idle (new_pass start first ∷ []), [])
  was_dealt old new first n m size was is = is ∙ ap (λ (me : Me (Option C) (SeatView C E)). (only_first me.0, [])) (was ∙ ap (λ (k : ℕ). (idle (new_passes start first k), [])) size)

pub dealt_number : {C A R : Type 0} (start : C) (pass : Pass C A R) (number : ℕ) → pass.seat.me ≡ (idle (new_pass start number ∷ []), []) → number_of pass ≡ number
dealt_number {C} {A} {R} start pass number me = ap (λ (m : Me (Option C) (SeatView C (Pair A R))). first_number m.0.passes) me

pub is_dealt : {C A R : Type 0} (id : TableId) (start : C) (pass : Pass C A R) (number : ℕ) → pass.seat.table_id ≡ id → pass.seat.me ≡ (idle (new_pass start number ∷ []), []) → pass.calls ≡ [] → IsDealt id start pass
is_dealt id start pass number table me told = record {
  table = table;
  view = me ∙ ap (λ (n : ℕ). (idle (new_pass start n ∷ []), [])) (sym (dealt_number start pass number me));
  told = told;
}

module _ {C S A R : Type 0} (setup : C → S) (is_legal : S → List (Pair A R) → Type 0) where
  abbrev Knows' : Type 0
  Knows' = Me (Option C) (SeatView C (Pair A R))

  pub dealt_pass : (turn : Turn C A R) (pass : Pass C A R) → is_legal (setup (start_of turn)) [] → IsDealt turn.table.shared.table_id (start_of turn) pass → IsPassOf setup is_legal turn pass
  dealt_pass turn pass legal is =
      let front : front_of pass ≡ [] = ap (λ (m : Knows'). first_front m.0.passes) is.view in
      let calls : calls_of pass ≡ [] = ap (λ (m : Knows'). first_calls m.0.passes) is.view in
      record {
        table = is.table;
        empty = ap (λ (m : Knows'). m.1) is.view;
        waits = ap (λ (m : Knows'). m.0.holds) is.view;
        view = (new_pass (start_of turn) (number_of pass), ap (λ (m : Knows'). m.0.passes) is.view, refl);
        legal = subst (λ (l : List (Pair A R)). is_legal (setup (start_of turn)) l) (sym front) legal;
        told = is.told ∙ ap places_of (sym calls);
      }

  -- the history of the start is legal
  pub legal_start : (history : C → List (Pair A R)) (core start : C) → is_legal (setup core) (history core) → history core ≡ [] → start ≡ core → is_legal (setup start) []
  legal_start history core start legal empty same =
      subst (λ (x : C). is_legal (setup x) []) (sym same) (subst (λ (l : List (Pair A R)). is_legal (setup core) l) empty legal)

pub dealt_nothing : {C A R : Type 0} (id : TableId) (start : C) (pass : Pass C A R) → IsDealt id start pass → HasDoneNothing pass
dealt_nothing {C} {A} {R} id start pass is = record {
  front = ap (λ (m : Me (Option C) (SeatView C (Pair A R))). first_front m.0.passes) is.view;
  calls = ap (λ (m : Me (Option C) (SeatView C (Pair A R))). first_calls m.0.passes) is.view;
}
