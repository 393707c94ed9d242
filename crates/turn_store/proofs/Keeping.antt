-- What all views say of the history, after each kind of change.
use Rattle.std.proofs.Common.{◌≡◌, ◌≢◌, ℕ, zero, suc, ◌+◌, List, [], ◌∷◌, ◌++◌, map, length, refl, sym, ap, ◌∙◌, subst, ⊎_elim, arith, length-append}
use Rattle.std.specs.Prelude.{slice_set}
use Rattle.std.specs.List.{AllByRecursion}
use mathlib.Core.Option.{some, some-injective, some-ne-none}
use lib.ListN.{get_elem?}
use Rattle.atomic_table.proofs.Lists.{set_else}
use Rattle.turn_store.specs.declared.view.Called.{Called}
use Rattle.turn_store.specs.declared.view.PassView.{PassView}
use Rattle.turn_store.specs.declared.view.SeatView.{SeatView}
use Rattle.turn_store.specs.Places.{Begins, total, StandsIn, call_at}
use Rattle.turn_store.specs.Views.{idle, IsSoundPass, calls_weight, with_entry, with_front, without_first, only_first, joined, spent, new_passes, first_seat}
use Rattle.turn_store.specs.Rule.{total_upto, KeepsHistory}
use Rattle.turn_store.proofs.Totals.{total_append, total_set, total_cut, length_cut, all_weaker, all_append, all_first, all_rest, all_after, at_end, begins_on, begins_same, begins_none, all_stand_on, upto_next}

module _ {C : Type 0} (E : Type 0) (start : C) where
  new_sound : (first n : ℕ) → AllByRecursion (IsSoundPass {E = E} start []) (new_passes start first n)
  new_sound first zero = tt
  new_sound first (suc n) = ((refl, begins_none [], tt), new_sound (suc first) n)

  new_length : (first n : ℕ) → length (new_passes {E = E} start first n) ≡ n
  new_length first zero = refl
  new_length first (suc n) = ap suc (new_length (suc first) n)

  new_weight : (h : ℕ → ℕ) (first n : ℕ) → calls_weight h (new_passes {E = E} start first n) ≡ 0
  new_weight h first zero = refl
  new_weight h first (suc n) = let k = new_weight h (suc first) n in omega arith

module _ {C E : Type 0} (start : C) (pass_count : ℕ) where
  -- one view changes, and the history with it
  pub kept_change : (log now : List E) (views : List (SeatView C E)) (id : ℕ) (v w : SeatView C E) → get_elem? views id ≡ some v → Begins log now → AllByRecursion (IsSoundPass start now) w.passes
      → length w.passes ≡ length v.passes → ((h : ℕ → ℕ) → calls_weight h w.passes + total_upto h (length log) ≡ calls_weight h v.passes + total_upto h (length now))
      → KeepsHistory start pass_count log views → KeepsHistory start pass_count now (slice_set views id w)
  kept_change log now views id v w at longer mine same more kept = record {
    sound = all_after (λ j u. AllByRecursion (IsSoundPass start now) u.passes) views id w
        (λ j u apart e. all_weaker (IsSoundPass start log) (IsSoundPass start now) (λ p s. (s.0, begins_on p.front log now s.1 longer, s.2)) u.passes (kept.sound j u e)) mine;
    count = let s = total_set (λ (u : SeatView C E). length u.passes) views id v w at in let c = kept.count in omega arith;
    places = λ h.
        let s = total_set (λ (u : SeatView C E). calls_weight h u.passes) views id v w at in
        let c = kept.places h in
        let m = more h in
        omega arith;
  }

  -- the view changes, and its passes do not
  pub kept_same : (log : List E) (views : List (SeatView C E)) (id : ℕ) (v w : SeatView C E) → get_elem? views id ≡ some v → w.passes ≡ v.passes → KeepsHistory start pass_count log views → KeepsHistory start pass_count log (slice_set views id w)
  kept_same log views id v w at same kept =
      kept_change log log views id v w at (begins_same log) (subst (λ (ps : List (PassView C E)). AllByRecursion (IsSoundPass start log) ps) (sym same) (kept.sound id v at)) (ap length same)
      (λ h. ap (λ (ps : List (PassView C E)). calls_weight h ps + total_upto h (length log)) same) kept

  sound_one : (log : List E) (views : List (SeatView C E)) (id : ℕ) (v : SeatView C E) (p : PassView C E) → get_elem? views id ≡ some v → v.passes ≡ p ∷ [] → KeepsHistory start pass_count log views → IsSoundPass start log p
  sound_one log views id v p at one kept = let h : AllByRecursion (IsSoundPass start log) (p ∷ []) = subst (λ (ps : List (PassView C E)). AllByRecursion (IsSoundPass start log) ps) one (kept.sound id v at) in h.0

  pub start_of : (log : List E) (views : List (SeatView C E)) (id : ℕ) (v : SeatView C E) (p : PassView C E) → get_elem? views id ≡ some v → v.passes ≡ p ∷ [] → KeepsHistory start pass_count log views → p.start ≡ start
  start_of log views id v p at one kept = (sound_one log views id v p at one kept).0

  -- an entry of the pass
  pub kept_with_entry : (log now : List E) (pair : E) (views : List (SeatView C E)) (id : ℕ) (v : SeatView C E) (p : PassView C E) → get_elem? views id ≡ some v → v.passes ≡ p ∷ [] → now ≡ log ++ pair ∷ []
      → KeepsHistory start pass_count log views → KeepsHistory start pass_count now (slice_set views id (idle (map (with_entry now pair) v.passes)))
  kept_with_entry log now pair views id v p at one longer kept =
      let s = sound_one log views id v p at one kept in
      let more : Begins log now = (pair ∷ [], longer) in
      let front : Begins p.front now = begins_on p.front log now s.1 more in
      let size : length now ≡ length log + 1 = ap length longer ∙ omega (arith, length-append log (pair ∷ [])) in
      let calls : AllByRecursion (StandsIn now) (p.calls ++ call_at (length now) pair ∷ []) =
      all_append (StandsIn now) p.calls (call_at (length now) pair ∷ []) (all_stand_on p.front now front p.calls s.2) ((log, [], longer, size), tt) in
      kept_change log now views id v (idle (map (with_entry now pair) v.passes)) at more
      (subst (λ (ps : List (PassView C E)). AllByRecursion (IsSoundPass start now) (map (with_entry now pair) ps)) (sym one) ((s.0, begins_same now, calls), tt))
      (ap (λ (ps : List (PassView C E)). length (map (with_entry now pair) ps)) one ∙ sym (ap (λ (ps : List (PassView C E)). length ps) one))
      (λ h.
      let a = total_append (λ (c : Called E). h c.place) p.calls (call_at (length now) pair ∷ []) in
      let u = upto_next h (length log) (length now) (omega arith) in
      subst (λ (ps : List (PassView C E)). calls_weight h (map (with_entry now pair) ps) + total_upto h (length log) ≡ calls_weight h ps + total_upto h (length now)) (sym one) (omega arith))
      kept

  -- a refusal with the history as it was taken
  pub kept_with_front : (log : List E) (views : List (SeatView C E)) (id : ℕ) (v : SeatView C E) (p : PassView C E) → get_elem? views id ≡ some v → v.passes ≡ p ∷ []
      → KeepsHistory start pass_count log views → KeepsHistory start pass_count log (slice_set views id (idle (map (with_front log) v.passes)))
  kept_with_front log views id v p at one kept =
      let s = sound_one log views id v p at one kept in
      kept_change log log views id v (idle (map (with_front log) v.passes)) at (begins_same log)
      (subst (λ (ps : List (PassView C E)). AllByRecursion (IsSoundPass start log) (map (with_front log) ps)) (sym one) ((s.0, begins_same log, all_stand_on p.front log s.1 p.calls s.2), tt))
      (ap (λ (ps : List (PassView C E)). length (map (with_front log) ps)) one ∙ sym (ap (λ (ps : List (PassView C E)). length ps) one))
      (λ h. subst (λ (ps : List (PassView C E)). calls_weight h (map (with_front log) ps) + total_upto h (length log) ≡ calls_weight h ps + total_upto h (length log)) (sym one) refl)
      kept

  pub kept_split : (log : List E) (views : List (SeatView C E)) (id : ℕ) (v : SeatView C E) → get_elem? views id ≡ some v → KeepsHistory start pass_count log views → KeepsHistory start pass_count log (slice_set views id (without_first v) ++ only_first v ∷ [])
  kept_split log views id v at kept =
      let front = slice_set views id (without_first v) in
      let mine = kept.sound id v at in
      record {
        sound = λ j u e.
            ⊎_elim
            (λ (x : get_elem? front j ≡ some u). all_after (λ k z. AllByRecursion (IsSoundPass start log) z.passes) views id (without_first v) (λ k z _ q. kept.sound k z q) (all_rest (IsSoundPass start log) v.passes mine) j u x)
            (λ (x : only_first v ≡ u). subst (λ (z : SeatView C E). AllByRecursion (IsSoundPass start log) z.passes) x (all_first (IsSoundPass start log) v.passes mine))
            (at_end front (only_first v) u j e);
        count =
            let f : SeatView C E → ℕ = λ u. length u.passes in
            let s = total_set f views id v (without_first v) at in
            let a = total_append f front (only_first v ∷ []) in
            let l = length_cut v.passes in
            let c = kept.count in
            omega arith;
        places = λ h.
            let f : SeatView C E → ℕ = λ u. calls_weight h u.passes in
            let s = total_set f views id v (without_first v) at in
            let a = total_append f front (only_first v ∷ []) in
            let l = total_cut (λ (p : PassView C E). total (λ (c : Called E). h c.place) p.calls) v.passes in
            let c = kept.places h in
            omega arith;
      }

  pub kept_join : (log : List E) (views : List (SeatView C E)) (id other : ℕ) (v w : SeatView C E) → get_elem? views id ≡ some v → get_elem? (slice_set views id (joined v w)) other ≡ some w → other ≢ id
      → KeepsHistory start pass_count log views → KeepsHistory start pass_count log (slice_set (slice_set views id (joined v w)) other spent)
  kept_join log views id other v w at there apart kept =
      let first = slice_set views id (joined v w) in
      let was : get_elem? views other ≡ some w = sym (set_else views id other (joined v w) apart) ∙ there in
      record {
        sound = all_after (λ k z. AllByRecursion (IsSoundPass start log) z.passes) first other spent
            (λ k z _ q. all_after (λ k z. AllByRecursion (IsSoundPass start log) z.passes) views id (joined v w) (λ k z _ h. kept.sound k z h) (all_append (IsSoundPass start log) v.passes w.passes (kept.sound id v at) (kept.sound other w was)) k z q)
            tt;
        count =
            let f : SeatView C E → ℕ = λ u. length u.passes in
            let s = total_set f views id v (joined v w) at in
            let t = total_set f first other w spent there in
            let l = length-append v.passes w.passes in
            let c = kept.count in
            omega arith;
        places = λ h.
            let f : SeatView C E → ℕ = λ u. calls_weight h u.passes in
            let s = total_set f views id v (joined v w) at in
            let t = total_set f first other w spent there in
            let l = total_append (λ (p : PassView C E). total (λ (c : Called E). h c.place) p.calls) v.passes w.passes in
            let c = kept.places h in
            omega arith;
      }

  -- ---- the start

  only_one : (w : SeatView C E) (j : ℕ) (u : SeatView C E) → get_elem? (w ∷ []) j ≡ some u → w ≡ u
  only_one w zero u e = some-injective w u e
  only_one w (suc j) u e = absurd (some-ne-none u (sym e))

  pub only_idle : (j : ℕ) (u : SeatView C E) → get_elem? (first_seat start pass_count ∷ []) j ≡ some u → first_seat start pass_count ≡ u
  only_idle j u e = only_one (first_seat start pass_count) j u e

  pub kept_first : KeepsHistory {E = E} start pass_count [] (first_seat start pass_count ∷ [])
  kept_first = record {
    sound = λ j u e. subst (λ (z : SeatView C E). AllByRecursion (IsSoundPass start []) z.passes) (only_one (first_seat start pass_count) j u e) (new_sound E start 0 pass_count);
    count = let l = new_length E start 0 pass_count in omega arith;
    places = λ h. let l = new_weight E start h 0 pass_count in omega arith;
  }
