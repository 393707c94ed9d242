-- The definitions on a history of two numbers. The core is its history, and a history is legal that has no 0.
use Rattle.std.proofs.Common.{◌≡◌, ℕ, zero, suc, ◌+◌, ◌*◌, List, [], ◌∷◌, ◌++◌, length, Bool, true, false, Option, Some, None, refl, sym, ap, ◌∙◌, subst, arith}
use Rattle.std.specs.Prelude.{slice_index}
use Rattle.std.specs.List.{AllByRecursion}
use mathlib.Core.Option.{some, none, some-injective, some-ne-none}
use lib.ListN.{get_elem?}
use Rattle.atomic_table.specs.Table.{Me, step}
use Rattle.sso_base.specs.declared.history.Pair.{Pair}
use Rattle.turn_store.specs.declared.store.Pass.{Pass}
use Rattle.turn_store.specs.declared.store.Turn.{Turn}
use Rattle.turn_store.specs.declared.view.PassView.{PassView}
use Rattle.turn_store.specs.declared.view.SeatView.{SeatView}
use Rattle.turn_store.specs.Places.{times, IsEachOnce, numbers_from, AreStored, Begins, before_last, call_at, StandsIn, places_of}
use Rattle.turn_store.specs.Views.{new_pass, new_passes, IsSoundPass, calls_weight, with_entry, with_front, idle, at_turn, without_first, only_first, joined}
use Rattle.turn_store.specs.Passes.{first_number, first_front, first_calls, pair_of, IsPassOf}
use Rattle.turn_store.specs.Rule.{total_upto, KeepsHistory, IsFree, IsTaken}
use Rattle.turn_store.specs.Steps.{FitsCore, Takes, Counts, Leaves, LeavesFull}

abbrev log : List ℕ
log = 7 ∷ 9 ∷ []

abbrev nothing : List ℕ
nothing = []

-- ---- places

counted_once : times 2 (1 ∷ 2 ∷ []) ≡ 1
counted_once = refl

counted_twice : times 2 (2 ∷ 1 ∷ 2 ∷ []) ≡ 2
counted_twice = refl

each_once : IsEachOnce 2 ((2 ∷ []) ∷ (1 ∷ []) ∷ [])
each_once zero pos high = absurd (omega arith)
each_once (suc zero) pos high = refl
each_once (suc (suc zero)) pos high = refl
each_once (suc (suc (suc n))) pos high = absurd (omega arith)

one_place_twice : IsEachOnce 2 ((2 ∷ []) ∷ (1 ∷ 2 ∷ []) ∷ []) → ⊥
one_place_twice each = let two : 2 ≡ 1 = each 2 (omega arith) (omega arith) in absurd (omega (arith, two))

one_place_lost : IsEachOnce 2 ((2 ∷ []) ∷ [] ∷ []) → ⊥
one_place_lost each = let none_there : 0 ≡ 1 = each 1 (omega arith) (omega arith) in absurd (omega (arith, none_there))

two_numbers : numbers_from 3 2 ≡ 3 ∷ 4 ∷ []
two_numbers = refl

stored_all : AreStored true (1 ∷ 2 ∷ []) (1 ∷ 2 ∷ [])
stored_all = record { all = λ is. refl }

stored_all_not : AreStored true (1 ∷ []) (1 ∷ 2 ∷ []) → ⊥
stored_all_not are = let same : 1 ≡ 2 = ap (λ (l : List ℕ). length l) (are.all refl) in absurd (omega (arith, same))

begins_it : Begins (7 ∷ []) log
begins_it = (9 ∷ [], refl)

begins_it_not : Begins (9 ∷ []) log → ⊥
begins_it_not b = let first : 7 ≡ 9 = ap (λ (l : List ℕ). slice_index l 0) b.1 in absurd (omega (arith, first))

all_but_the_last : before_last log ≡ 7 ∷ []
all_but_the_last = refl

stands_there : StandsIn log (call_at 2 9)
stands_there = (7 ∷ [], [], refl, refl)

first_is_not_nine : (before after : List ℕ) → log ≡ before ++ 9 ∷ after → 1 ≡ length before + 1 → ⊥
first_is_not_nine [] after is place = let first : 7 ≡ 9 = ap (λ (l : List ℕ). slice_index l 0) is in absurd (omega (arith, first))
first_is_not_nine (x ∷ xs) after is place = absurd (omega arith)

stands_elsewhere : StandsIn log (call_at 1 9) → ⊥
stands_elsewhere s = first_is_not_nine s.0 s.1 s.2 s.3

their_places : places_of {E = ℕ} (call_at 1 7 ∷ call_at 4 9 ∷ []) ≡ 1 ∷ 4 ∷ []
their_places = refl

-- ---- what seats know

-- a pass that stored the 9, and one that stored the 7 and saw no more
abbrev late : PassView (List ℕ) ℕ
late = record { number = 0; start = nothing; front = log; calls = call_at 2 9 ∷ [] }

abbrev early : PassView (List ℕ) ℕ
early = record { number = 1; start = nothing; front = 7 ∷ []; calls = call_at 1 7 ∷ [] }

two_new_passes : new_passes {E = ℕ} nothing 0 2 ≡ new_pass nothing 0 ∷ new_pass nothing 1 ∷ []
two_new_passes = refl

early_is_sound : IsSoundPass nothing log early
early_is_sound = (refl, (9 ∷ [], refl), (([], [], refl, refl), tt))

late_is_sound : IsSoundPass nothing log late
late_is_sound = (refl, ([], refl), ((7 ∷ [], [], refl, refl), tt))

longer_front_is_not_sound : IsSoundPass nothing (7 ∷ []) late → ⊥
longer_front_is_not_sound s = let size : 1 ≡ suc (suc (length s.1.0)) = ap (λ (l : List ℕ). length l) s.1.1 in absurd (omega (arith, size))

they_weigh : calls_weight (λ place. 10 + place) (late ∷ early ∷ []) ≡ 23
they_weigh = refl

an_entry_is_one_call_more : with_entry log 9 early ≡ record { number = 1; start = nothing; front = log; calls = call_at 1 7 ∷ call_at 2 9 ∷ [] }
an_entry_is_one_call_more = refl

a_refusal_is_no_call : with_front log early ≡ record { number = 1; start = nothing; front = log; calls = call_at 1 7 ∷ [] }
a_refusal_is_no_call = refl

one_goes : only_first (idle (late ∷ early ∷ [])) ≡ idle (late ∷ [])
one_goes = refl

one_stays : without_first (idle (late ∷ early ∷ [])) ≡ idle (early ∷ [])
one_stays = refl

both_again : joined (idle (late ∷ [])) (idle (early ∷ [])) ≡ idle (late ∷ early ∷ [])
both_again = refl

its_number : first_number (early ∷ late ∷ []) ≡ 1
its_number = refl

its_front : first_front (early ∷ late ∷ []) ≡ 7 ∷ []
its_front = refl

its_calls : first_calls (late ∷ early ∷ []) ≡ call_at 2 9 ∷ []
its_calls = refl

a_pair : pair_of {A = ℕ} {R = ℕ} [] 5 [] 7 8 ≡ record { entry = record { at = 5; fresh = []; ask = 7 }; reply = 8 }
a_pair = refl

a_pair_is_never_earlier : pair_of (pair_of {A = ℕ} {R = ℕ} [] 9 [] 7 8 ∷ []) 5 [] 7 8 ≡ record { entry = record { at = 9; fresh = []; ask = 7 }; reply = 8 }
a_pair_is_never_earlier = refl

a_spent_pass_is_none : {C S A R : Type 0} (setup : C → S) (is_legal : S → List (Pair A R) → Type 0) (turn : Turn C A R) (pass : Pass C A R) → pass.seat.me.0.passes ≡ [] → IsPassOf setup is_legal turn pass → ⊥
a_spent_pass_is_none {C} {S} {A} {R} setup is_legal turn pass spent is =
    let size : 0 ≡ 1 = ap (λ (l : List (PassView C (Pair A R))). length l) (sym spent ∙ is.view.1) in
    absurd (omega (arith, size))

-- ---- the rule

off : false ≡ true → ⊥
off e = cc e

both_ways : (b : Bool) → b ≡ false → b ≡ true → ⊥
both_ways b is_false is_true = off (sym is_false ∙ is_true)

three_places : total_upto (λ place. 10 + place) 3 ≡ 36
three_places = refl

abbrev Seats : Type 0
Seats = List (SeatView (List ℕ) ℕ)

abbrev free_seats : Seats
free_seats = idle (late ∷ []) ∷ idle (early ∷ []) ∷ []

-- the early pass has the turn
abbrev busy_seats : Seats
busy_seats = idle (late ∷ []) ∷ at_turn (idle (early ∷ [])) log ∷ []

each_seat : (P : SeatView (List ℕ) ℕ → Type 0) (a b : SeatView (List ℕ) ℕ) → P a → P b → (id : ℕ) (v : SeatView (List ℕ) ℕ) → get_elem? (a ∷ b ∷ []) id ≡ some v → P v
each_seat P a b pa pb zero v at = subst P (some-injective a v at) pa
each_seat P a b pa pb (suc zero) v at = subst P (some-injective b v at) pb
each_seat P a b pa pb (suc (suc id)) v at = absurd (some-ne-none v (sym at))

free_kept : KeepsHistory nothing 2 log free_seats
free_kept = record {
  sound = each_seat (λ v. AllByRecursion (IsSoundPass nothing log) v.passes) (idle (late ∷ [])) (idle (early ∷ [])) (late_is_sound, tt) (early_is_sound, tt);
  count = refl;
  places = λ weight. omega arith;
}

busy_kept : KeepsHistory nothing 2 log busy_seats
busy_kept = record {
  sound = each_seat (λ v. AllByRecursion (IsSoundPass nothing log) v.passes) (idle (late ∷ [])) (at_turn (idle (early ∷ [])) log) (late_is_sound, tt) (early_is_sound, tt);
  count = refl;
  places = λ weight. omega arith;
}

lost_call_is_not_kept : KeepsHistory nothing 2 log (idle (late ∷ []) ∷ idle (new_pass nothing 1 ∷ []) ∷ []) → ⊥
lost_call_is_not_kept kept = let one : 1 ≡ 2 = kept.places (λ place. 1) in absurd (omega (arith, one))

lost_pass_is_not_kept : KeepsHistory nothing 3 log free_seats → ⊥
lost_pass_is_not_kept kept = let two : 2 ≡ 3 = kept.count in absurd (omega (arith, two))

abbrev has_history : List ℕ → List ℕ
has_history core = core

abbrev set_up : List ℕ → Unit {0}
set_up core = tt

abbrev HasNoZero : Unit {0} → List ℕ → Type 0
HasNoZero s history = times 0 history ≡ 0

is_free : IsFree has_history set_up HasNoZero nothing 2 (record { words = 4 ∷ []; homes = some (Some log) ∷ []; views = free_seats }) log
is_free = record {
  words = refl;
  homes = refl;
  idle = each_seat (λ v. v.holds ≡ false) (idle (late ∷ [])) (idle (early ∷ [])) refl refl;
  kept = free_kept;
  same = refl;
  legal = refl;
  small = omega arith;
}

odd_word_is_not_free : (core : List ℕ) → IsFree has_history set_up HasNoZero nothing 2 (record { words = 5 ∷ []; homes = some (Some log) ∷ []; views = free_seats }) core → ⊥
odd_word_is_not_free core free = let word : 5 ≡ 2 * length core = ap (λ (l : List ℕ). slice_index l 0) free.words in absurd (omega (arith, word))

on_turn : (id : ℕ) (v : SeatView (List ℕ) ℕ) → get_elem? busy_seats id ≡ some v → v.holds ≡ true → (id ≡ 1) × (v.taken ≡ log)
on_turn zero v at holds = absurd (both_ways v.holds (ap (λ (z : SeatView (List ℕ) ℕ). z.holds) (sym (some-injective (idle (late ∷ [])) v at))) holds)
on_turn (suc zero) v at holds = (refl, ap (λ (z : SeatView (List ℕ) ℕ). z.taken) (sym (some-injective (at_turn (idle (early ∷ [])) log) v at)))
on_turn (suc (suc id)) v at holds = absurd (some-ne-none v (sym at))

is_taken : IsTaken has_history set_up HasNoZero nothing 2 (record { words = 5 ∷ []; homes = none ∷ []; views = busy_seats }) log 1
is_taken = record {
  words = refl;
  homes = refl;
  one = on_turn;
  holder = (at_turn (idle (early ∷ [])) log, refl, refl, omega arith);
  kept = busy_kept;
  small = omega arith;
}

nobody_has_the_turn : (seat : ℕ) → IsTaken has_history set_up HasNoZero nothing 2 (record { words = 5 ∷ []; homes = none ∷ []; views = free_seats }) log seat → ⊥
nobody_has_the_turn seat taken =
    both_ways taken.holder.0.holds (each_seat (λ v. v.holds ≡ false) (idle (late ∷ [])) (idle (early ∷ [])) refl refl seat taken.holder.0 taken.holder.1) taken.holder.2

-- ---- the steps

fits : FitsCore has_history set_up HasNoZero log early
fits = record { same = refl; legal = refl; front = (9 ∷ [], refl); calls = (([], [], refl, refl), tt) }

other_core_does_not_fit : FitsCore has_history set_up HasNoZero (9 ∷ 7 ∷ []) early → ⊥
other_core_does_not_fit f = let first : 9 ≡ 7 = ap (λ (l : List ℕ). slice_index l 0) f.front.1 in absurd (omega (arith, first))

abbrev Knows : Type 0
Knows = Me (Option (List ℕ)) (SeatView (List ℕ) ℕ)

abbrev out : Knows
out = (idle (early ∷ []), [])

abbrev in_turn : Knows
in_turn = (at_turn (idle (early ∷ [])) log, (0, Some log) ∷ [])

takes_it : Takes has_history set_up HasNoZero (step 1 0 4 5 none) out 4 in_turn
takes_it = (log, (fits, tt), omega arith, refl)

found_it_taken : Takes has_history set_up HasNoZero (step 1 0 4 5 none) out 5 out
found_it_taken = refl

found_it_taken_and_has_it : Takes has_history set_up HasNoZero (step 1 0 4 5 none) out 5 in_turn → ⊥
found_it_taken_and_has_it is = both_ways true (ap (λ (m : Knows). m.0.holds) is) refl

-- the seat gives back a core that is one number longer than it was
abbrev longer_turn : Knows
longer_turn = (at_turn (idle (early ∷ [])) (7 ∷ []), (0, Some log) ∷ [])

abbrev fronts : List (PassView (List ℕ) ℕ) → ℕ
fronts [] = 0
fronts (p ∷ ps) = length p.front

abbrev core_or : Option (List ℕ) → List ℕ
core_or None = []
core_or (Some core) = core

abbrev first_core : List (ℕ × Option (List ℕ)) → List ℕ
first_core [] = []
first_core (x ∷ xs) = core_or x.1

counts_it : Counts has_history set_up HasNoZero (step 1 0 1 0 none) longer_turn 3 (idle (with_entry log 9 early ∷ []), [])
counts_it core pair slot longer =
    let same : log ≡ core = ap first_core slot in
    let nine : 9 ≡ pair = ap (λ (l : List ℕ). slice_index l 1) (same ∙ longer) in
    λ i. (idle (with_entry (same i) (nine i) early ∷ []), [])

counts_and_drops_it : Counts has_history set_up HasNoZero (step 1 0 1 0 none) longer_turn 3 out → ⊥
counts_and_drops_it is =
    let size : 1 ≡ 2 = ap (λ (m : Knows). fronts m.0.passes) (is log 9 refl refl) in
    absurd (omega (arith, size))

leaves_it : Leaves has_history set_up HasNoZero (step 1 0 1 0 none) in_turn 5 out
leaves_it = refl

leaves_it_and_has_seen : Leaves has_history set_up HasNoZero (step 1 0 1 0 none) in_turn 5 (idle (with_front log early ∷ []), []) → ⊥
leaves_it_and_has_seen is =
    let size : 2 ≡ 1 = ap (λ (m : Knows). fronts m.0.passes) is in
    absurd (omega (arith, size))

leaves_it_full : LeavesFull has_history set_up HasNoZero (step 1 0 1 0 none) in_turn 5 (idle (with_front log early ∷ []), [])
leaves_it_full = refl

leaves_it_full_and_has_not_seen : LeavesFull has_history set_up HasNoZero (step 1 0 1 0 none) in_turn 5 out → ⊥
leaves_it_full_and_has_not_seen is =
    let size : 1 ≡ 2 = ap (λ (m : Knows). fronts m.0.passes) is in
    absurd (omega (arith, size))
