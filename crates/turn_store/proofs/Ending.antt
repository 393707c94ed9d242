-- What remains when one seat has all passes.
use Rattle.std.proofs.Common.{◌≡◌, ◌≢◌, ◌==◌, ℕ, zero, suc, ◌+◌, ◌<◌, ◌≤◌, List, [], ◌∷◌, ◌++◌, map, length, Bool, false, Option, Some, refl, sym, ap, ◌∙◌, subst, inl, inr, arith, eq-eqb, ne_eqb, length-append}
use Rattle.std.specs.Prelude.{slice_set, slice_index_or, if◌then◌else◌}
use Rattle.std.specs.List.{All, AllByRecursion, remove}
use Rattle.std.proofs.lemmas.List.{length-map}
use mathlib.Core.Option.{some, some-injective}
use native.Mathlib.Decide.{ℕ_discrete}
use lib.ListN.{get_elem?}
use Rattle.atomic_table.specs.Table.{State, Me, Final, Seen}
use Rattle.atomic_table.proofs.Lists.{set_else}
use Rattle.sso_base.specs.declared.history.Pair.{Pair}
use Rattle.turn_store.specs.declared.view.Called.{Called}
use Rattle.turn_store.specs.declared.view.PassView.{PassView}
use Rattle.turn_store.specs.declared.view.SeatView.{SeatView}
use Rattle.turn_store.specs.declared.store.Pass.{Pass}
use Rattle.turn_store.specs.declared.store.Turn.{Turn}
use Rattle.turn_store.specs.Places.{Begins, StandsIn, total, places_of, times, numbers_from}
use Rattle.turn_store.specs.Views.{calls_weight, IsSoundPass, spent}
use Rattle.turn_store.specs.Rule.{total_upto, KeepsHistory, IsFree, KeepsRule}
use Rattle.turn_store.specs.Passes.{number_of, first_front, first_calls, front_of, calls_of, start_of, passes_of, IsPassOf}
use Rattle.turn_store.specs.Seats.{IsIdleAt, views_in, lists_of}
use Rattle.turn_store.proofs.Totals.{total_set, total_one, total_none, all_stand_on}
use Rattle.turn_store.proofs.Dealing.{numbers_length}
use Rattle.turn_store.proofs.Steps.{idle_other}

-- ---- lists

module _ {A : Type 0} where
  pub all_by : (P : A → Type 0) (xs : List A) → All P xs → AllByRecursion P xs
  all_by P [] h = tt
  all_by P (x ∷ xs) h = (h 0 x (omega arith), all_by P xs (λ k d lt. h (suc k) d (omega arith)))

  pub by_all : (P : A → Type 0) (xs : List A) → AllByRecursion P xs → All P xs
  by_all P [] h k d lt = absurd (omega arith)
  by_all P (x ∷ xs) h zero d lt = h.0
  by_all P (x ∷ xs) h (suc k) d lt = by_all P xs h.1 k d (omega arith)

  pub removed : (items left : List A) (first : A) → 0 < length items → first ≡ slice_index_or items 0 first → left ≡ remove items 0 → items ≡ first ∷ left
  removed [] left first pos is rest = absurd (omega arith)
  removed (x ∷ xs) left first pos is rest = λ i. sym is i ∷ sym rest i

pub empty_list : {A : Type 0} (l : List A) → length l ≡ 0 → l ≡ []
empty_list [] e = refl
empty_list (x ∷ xs) e = absurd (omega arith)

-- passes that are numbered in their order are as many as there are numbers
pub passes_count : {C A R : Type 0} (passes : List (Pass C A R)) (count : ℕ) → map number_of passes ≡ numbers_from 0 count → length passes ≡ count
passes_count {C} {A} {R} passes count order = sym (length-map passes (number_of {C = C} {A = A} {R = R})) ∙ ap (λ (l : List ℕ). length l) order ∙ numbers_length 0 count

-- ---- each place once

abbrev one_of : ℕ → ℕ → ℕ
one_of place n = if n == place then 1 else 0

hit : (place n : ℕ) → n ≡ place → one_of place n ≡ 1
hit place n e = ap (λ (b : Bool). if b then 1 else 0) (eq-eqb n place e)

miss : (place n : ℕ) → n ≢ place → one_of place n ≡ 0
miss place n e = ap (λ (b : Bool). if b then 1 else 0) (ne_eqb n place e)

upto_none : (place n : ℕ) → n < place → total_upto (one_of place) n ≡ 0
upto_none place zero low = refl
upto_none place (suc n) low = let h = upto_none place n (omega arith) in let m = miss place (suc n) (λ e. omega arith) in omega (arith, h, m)

below : (place n : ℕ) → place ≤ suc n → suc n ≢ place → place ≤ n
below place n high apart = elim (ℕ_discrete (suc n) place) [ yes e ↦ absurd (apart e) | no e ↦ omega arith ]

upto_once : (place n : ℕ) → 0 < place → place ≤ n → total_upto (one_of place) n ≡ 1
upto_once place zero pos high = absurd (omega arith)
upto_once place (suc n) pos high =
    elim (ℕ_discrete (suc n) place) [
      | yes e ↦ (let h = upto_none place n (omega (arith, e)) in let m = hit place (suc n) e in omega (arith, h, m))
      | no e ↦ (let h = upto_once place n pos (below place n high e) in let m = miss place (suc n) e in omega (arith, h, m))
    ]

sum_of : {a b c d : ℕ} → a ≡ b → c ≡ d → a + c ≡ b + d
sum_of x y = λ i. x i + y i

-- ---- one seat has all passes

module _ {C E : Type 0} (start : C) (pass_count : ℕ) where
  none_weighs : (h : ℕ → ℕ) (ps : List (PassView C E)) → length ps ≡ 0 → calls_weight h ps ≡ 0
  none_weighs h [] e = refl
  none_weighs h (p ∷ ps) e = absurd (omega arith)

  others_none : (log : List E) (views : List (SeatView C E)) (id : ℕ) (v : SeatView C E) → get_elem? views id ≡ some v → length v.passes ≡ pass_count → KeepsHistory start pass_count log views → total (λ (u : SeatView C E). length u.passes) (slice_set views id spent) ≡ 0
  others_none log views id v at all kept = let s = total_set (λ (u : SeatView C E). length u.passes) views id v spent at in let c = kept.count in omega (arith, s, c, all)

  pub alone : (log : List E) (views : List (SeatView C E)) (id : ℕ) (v : SeatView C E) → get_elem? views id ≡ some v → length v.passes ≡ pass_count → KeepsHistory start pass_count log views → (h : ℕ → ℕ) → calls_weight h v.passes ≡ total_upto h (length log)
  alone log views id v at all kept h =
      let none = total_none (λ (u : SeatView C E). length u.passes) (λ (u : SeatView C E). calls_weight h u.passes) (λ u e. none_weighs h u.passes e) (slice_set views id spent) (others_none log views id v at all kept) in
      let s = total_set (λ (u : SeatView C E). calls_weight h u.passes) views id v spent at in
      let c = kept.places h in
      omega (arith, none, s, c)

module _ {C S E : Type 0} (history : C → List E) (setup : C → S) (is_legal : S → List E → Type 0) (start : C) (pass_count : ℕ) where
  abbrev St : Type 0
  St = State (Option C) (SeatView C E)

  -- an idle seat that has all passes finds the core at home
  at_home : (s : St) (id : ℕ) (v : SeatView C E) → KeepsRule history setup is_legal start pass_count s → get_elem? s.views id ≡ some v → v.holds ≡ false → length v.passes ≡ pass_count → (core : C) × IsFree history setup is_legal start pass_count s core
  at_home s id v (inl f) at waits all = f
  at_home s id v (inr t) at waits all =
      let h = t.2.holder in
      let other = idle_other history setup is_legal start pass_count s t.0 t.1 id v t.2 at waits in
      let none = others_none start pass_count t.0 s.views id v at all t.2.kept in
      let one = total_one (λ (u : SeatView C E). length u.passes) (slice_set s.views id spent) t.1 h.0 (set_else s.views id t.1 spent other ∙ h.1) in
      let pos : 0 < length h.0.passes = h.3 in
      absurd (omega (arith, none, one, pos))

  -- what is known of a core that came out, beside what all passes know
  pub record IsOut (core : C) (parts : List (PassView C E)) : Type 0 where
    pub sound : AllByRecursion (IsSoundPass start (history core)) parts
    pub places : (h : ℕ → ℕ) → calls_weight h parts ≡ total_upto h (length (history core))
    pub same : setup core ≡ setup start
    pub legal : is_legal (setup start) (history core)

  pub ends : (id : ℕ) (v : SeatView C E) (ws : List ℕ) (xs : List (Option C)) (r : Option C) → Final (Seen (KeepsRule history setup is_legal start pass_count) id v) ws xs → v.holds ≡ false → length v.passes ≡ pass_count → get_elem? xs 0 ≡ some r
      → (core : C) × (r ≡ Some core) × IsOut core v.passes
  ends id v ws xs r final waits all at =
      let s = final.0 in
      let home = at_home s id v final.1.0 final.1.1 waits all in
      let core = home.0 in
      let there : get_elem? xs 0 ≡ some (Some core) = final.4 0 (Some core) (ap (λ hs. get_elem? hs 0) home.1.homes) in (
        core,
        some-injective r (Some core) (sym at ∙ there),
        record {
          sound = home.1.kept.sound id v final.1.1;
          places = alone start pass_count (history core) s.views id v final.1.1 all home.1.kept;
          same = home.1.same;
          legal = subst (λ (x : S). is_legal x (history core)) home.1.same home.1.legal;
        },
      )

same_core : {C : Type 0} (a b : C) → ◌≡◌ {A = Option C} (Some a) (Some b) → a ≡ b
same_core a b e = cc e

-- ---- what the passes know

module _ {C S A R : Type 0} (setup : C → S) (is_legal : S → List (Pair A R) → Type 0) (turn : Turn C A R) where
  abbrev IsOne : Pass C A R → Type 0
  IsOne pass = IsPassOf setup is_legal turn pass

  pub all_idle : (ps : List (Pass C A R)) → AllByRecursion IsOne ps → AllByRecursion (IsIdleAt turn.table.shared.table_id) ps
  all_idle [] h = tt
  all_idle (p ∷ ps) h = ((h.0.table, h.0.empty, h.0.waits), all_idle ps h.1)

  pub views_count : (ps : List (Pass C A R)) → AllByRecursion IsOne ps → length (views_in ps) ≡ length ps
  views_count [] h = refl
  views_count (p ∷ ps) h =
      let k = views_count ps h.1 in
      let one : length p.seat.me.0.passes ≡ 1 = ap (λ (l : List (PassView C (Pair A R))). length l) h.0.view.1 in
      let l = length-append p.seat.me.0.passes (views_in ps) in
      omega (arith, k, one, l)

  first_sound : (start : C) (log : List (Pair A R)) (p : Pass C A R) (ps : List (PassView C (Pair A R))) → IsOne p → AllByRecursion (IsSoundPass start log) (p.seat.me.0.passes ++ ps)
      → Begins (front_of p) log × AllByRecursion (StandsIn log) (calls_of p) × AllByRecursion (IsSoundPass start log) ps
  first_sound start log p ps is sound =
      let one = is.view.1 in
      let q = is.view.0 in
      let all : AllByRecursion (IsSoundPass start log) (q ∷ ps) = subst (λ (l : List (PassView C (Pair A R))). AllByRecursion (IsSoundPass start log) (l ++ ps)) one sound in
      let front : front_of p ≡ q.front = ap (λ (l : List (PassView C (Pair A R))). first_front l) one in
      let calls : calls_of p ≡ q.calls = ap (λ (l : List (PassView C (Pair A R))). first_calls l) one in (
        subst (λ (l : List (Pair A R)). Begins l log) (sym front) all.0.1,
        subst (λ (l : List (Called (Pair A R))). AllByRecursion (StandsIn log) l) (sym calls) (all_stand_on q.front log all.0.1 q.calls all.0.2),
        all.1,
      )

  pub fronts_begin : (start : C) (log : List (Pair A R)) (ps : List (Pass C A R)) → AllByRecursion IsOne ps → AllByRecursion (IsSoundPass start log) (views_in ps) → AllByRecursion (λ (pass : Pass C A R). Begins (front_of pass) log) ps
  fronts_begin start log [] h s = tt
  fronts_begin start log (p ∷ ps) h s = let f = first_sound start log p (views_in ps) h.0 s in (f.0, fronts_begin start log ps h.1 f.2)

  pub calls_stand : (start : C) (log : List (Pair A R)) (ps : List (Pass C A R)) → AllByRecursion IsOne ps → AllByRecursion (IsSoundPass start log) (views_in ps) → AllByRecursion (λ (pass : Pass C A R). AllByRecursion (StandsIn log) (calls_of pass)) ps
  calls_stand start log [] h s = tt
  calls_stand start log (p ∷ ps) h s = let f = first_sound start log p (views_in ps) h.0 s in (f.1, calls_stand start log ps h.1 f.2)

  pub lists_are : (ps : List (Pass C A R)) → AllByRecursion IsOne ps → lists_of ps ≡ map (λ (pass : Pass C A R). places_of (calls_of pass)) ps
  lists_are [] h = refl
  lists_are (p ∷ ps) h = λ i. h.0.told i ∷ lists_are ps h.1 i

  times_calls : (place : ℕ) (calls : List (Called (Pair A R))) → times place (places_of calls) ≡ total (λ (c : Called (Pair A R)). one_of place c.place) calls
  times_calls place [] = refl
  times_calls place (c ∷ cs) = ap (λ (n : ℕ). one_of place c.place + n) (times_calls place cs)

  pub times_all : (place : ℕ) (ps : List (Pass C A R)) → AllByRecursion IsOne ps → total (times place) (lists_of ps) ≡ calls_weight (one_of place) (views_in ps)
  times_all place [] h = refl
  times_all place (p ∷ ps) h =
      let q = h.0.view.0 in
      let told : p.calls ≡ places_of q.calls = h.0.told ∙ ap (λ (l : List (PassView C (Pair A R))). places_of (first_calls l)) h.0.view.1 in
      let first : times place p.calls ≡ total (λ (c : Called (Pair A R)). one_of place c.place) q.calls = ap (times place) told ∙ times_calls place q.calls in
      let one : calls_weight (one_of place) (p.seat.me.0.passes ++ views_in ps) ≡ calls_weight (one_of place) (q ∷ views_in ps) = ap (λ (l : List (PassView C (Pair A R))). calls_weight (one_of place) (l ++ views_in ps)) h.0.view.1 in
      let rest = times_all place ps h.1 in
      sum_of first rest ∙ sym one

  pub once : (place n : ℕ) (ps : List (Pass C A R)) → AllByRecursion IsOne ps → ((h : ℕ → ℕ) → calls_weight h (views_in ps) ≡ total_upto h n) → 0 < place → place ≤ n → total (times place) (lists_of ps) ≡ 1
  once place n ps h all pos high = times_all place ps h ∙ all (one_of place) ∙ upto_once place n pos high

module _ {C S A R : Type 0} (history : C → List (Pair A R)) (setup : C → S) (is_legal : S → List (Pair A R) → Type 0) (turn : Turn C A R) where
  -- the slot, once all passes were joined
  pub closed : (passes left : List (Pass C A R)) (first : Pass C A R) (id : ℕ) (me : Me (Option C) (SeatView C (Pair A R))) (ws : List ℕ) (xs : List (Option C)) (r : Option C)
      → All (IsPassOf setup is_legal turn) passes → length passes ≡ passes_of turn → passes ≡ first ∷ left → me.0.holds ≡ false → me.0.passes ≡ first.seat.me.0.passes ++ views_in left
      → Final (Seen (KeepsRule history setup is_legal (start_of turn) (passes_of turn)) id me.0) ws xs → get_elem? xs 0 ≡ some r
      → (core : C) × (r ≡ Some core) × IsOut history setup is_legal (start_of turn) (passes_of turn) core (views_in passes)
  closed passes left first id me ws xs r good count cut waits is final at =
      let parts : me.0.passes ≡ views_in passes = is ∙ ap (λ (ps : List (Pass C A R)). views_in ps) (sym cut) in
      let size : length me.0.passes ≡ passes_of turn = ap (λ (l : List (PassView C (Pair A R))). length l) parts ∙ views_count setup is_legal turn passes (all_by (IsPassOf setup is_legal turn) passes good) ∙ count in
      let end = ends history setup is_legal (start_of turn) (passes_of turn) id me.0 ws xs r final waits size at in
      (end.0, end.1, subst (λ (l : List (PassView C (Pair A R))). IsOut history setup is_legal (start_of turn) (passes_of turn) end.0 l) parts end.2)

  pub comes_out : (passes : List (Pass C A R)) (r : Option C) (core : C) → (x : C) × (r ≡ Some x) × IsOut history setup is_legal (start_of turn) (passes_of turn) x (views_in passes) → r ≡ Some core
      → IsOut history setup is_legal (start_of turn) (passes_of turn) core (views_in passes)
  comes_out passes r core end is = subst (λ (x : C). IsOut history setup is_legal (start_of turn) (passes_of turn) x (views_in passes)) (same_core end.0 core (sym end.1 ∙ is)) end.2
