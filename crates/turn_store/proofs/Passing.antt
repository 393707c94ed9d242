-- What a call does to its pass.
use Rattle.std.proofs.Common.{◌≡◌, ℕ, ◌-◌, List, [], ◌∷◌, ◌++◌, map, length, Option, None, refl, sym, ap, ◌∙◌, subst, arith, length-append}
use Rattle.std.specs.Prelude.{take}
use Rattle.std.specs.List.{AllByRecursion}
use Rattle.std.proofs.Math.Seq.{take-append_seam}
use Rattle.atomic_table.specs.Table.{Me}
use Rattle.sso_base.specs.declared.history.Pair.{Pair}
use Rattle.sso_base.specs.Journal.{extended}
use Rattle.turn_store.specs.declared.view.Called.{Called}
use Rattle.turn_store.specs.declared.view.PassView.{PassView}
use Rattle.turn_store.specs.declared.view.SeatView.{SeatView}
use Rattle.turn_store.specs.declared.store.Pass.{Pass}
use Rattle.turn_store.specs.declared.store.Turn.{Turn}
use Rattle.turn_store.specs.Places.{Begins, before_last, call_at, places_of}
use Rattle.turn_store.specs.Views.{idle, at_turn, with_entry, with_front}
use Rattle.turn_store.specs.Steps.{FitsCore}
use Rattle.turn_store.specs.Passes.{first_front, first_calls, pair_of, start_of, IsPassOf}

places_snoc : {E : Type 0} (calls : List (Called E)) (c : Called E) → places_of (calls ++ c ∷ []) ≡ places_of calls ++ c.place ∷ []
places_snoc [] c = refl
places_snoc (x ∷ xs) c = ap (λ (l : List ℕ). x.place ∷ l) (places_snoc xs c)

module _ {C S A R : Type 0} (history : C → List (Pair A R)) (setup : C → S) (is_legal : S → List (Pair A R) → Type 0) where
  abbrev Mine : Type 0
  Mine = Me (Option C) (SeatView C (Pair A R))

  -- the pass at the turn knows the setup of the core
  pub pass_at : (core now : C) (old mid : Mine) (p : PassView C (Pair A R)) → old.0.passes ≡ p ∷ [] → mid ≡ (at_turn old.0 (history core), (0, None) ∷ []) → AllByRecursion (FitsCore history setup is_legal core) old.0.passes
      → setup now ≡ setup core → (x : PassView C (Pair A R)) × (mid.0.passes ≡ x ∷ []) × (setup now ≡ setup x.start)
  pass_at core now old mid p one taken fits same =
      let fit : AllByRecursion (FitsCore history setup is_legal core) (p ∷ []) = subst (λ (ps : List (PassView C (Pair A R))). AllByRecursion (FitsCore history setup is_legal core) ps) one fits in
      (p, ap (λ (m : Mine). m.0.passes) taken ∙ one, same ∙ fit.0.same)

  pub front_fits : (core : C) (old : Mine) (p : PassView C (Pair A R)) → old.0.passes ≡ p ∷ [] → AllByRecursion (FitsCore history setup is_legal core) old.0.passes → FitsCore history setup is_legal core p
  front_fits core old p one fits =
      let fit : AllByRecursion (FitsCore history setup is_legal core) (p ∷ []) = subst (λ (ps : List (PassView C (Pair A R))). AllByRecursion (FitsCore history setup is_legal core) ps) one fits in
      fit.0

  -- the core after a step is one pair longer than what was taken
  pub entry_at : (core now : C) (old mid : Mine) (pair : Pair A R) → mid ≡ (at_turn old.0 (history core), (0, None) ∷ []) → history now ≡ history core ++ pair ∷ [] → history now ≡ mid.0.taken ++ pair ∷ []
  entry_at core now old mid pair taken longer = longer ∙ ap (λ (l : List (Pair A R)). l ++ pair ∷ []) (ap (λ (m : Mine). m.0.taken) (sym taken))

  -- what the seat knows after an entry, and after a refusal
  pub me_entered : (core now : C) (old mid new : Mine) (p : PassView C (Pair A R)) (pair : Pair A R) → old.0.passes ≡ p ∷ [] → mid ≡ (at_turn old.0 (history core), (0, None) ∷ [])
      → new ≡ (idle (map (with_entry (history now) pair) mid.0.passes), []) → new ≡ (idle (with_entry (history now) pair p ∷ []), [])
  me_entered core now old mid new p pair one taken is = is ∙ ap (λ (ps : List (PassView C (Pair A R))). (idle (map (with_entry (history now) pair) ps), [])) (ap (λ (m : Mine). m.0.passes) taken ∙ one)

  pub me_left : (core : C) (old mid new : Mine) (p : PassView C (Pair A R)) → old.0.passes ≡ p ∷ [] → mid ≡ (at_turn old.0 (history core), (0, None) ∷ []) → new ≡ (idle mid.0.passes, []) → new ≡ (idle (p ∷ []), [])
  me_left core old mid new p one taken is = is ∙ ap (λ (ps : List (PassView C (Pair A R))). (idle ps, [])) (ap (λ (m : Mine). m.0.passes) taken ∙ one)

  pub me_refused : (core now : C) (old mid new : Mine) (p : PassView C (Pair A R)) → old.0.passes ≡ p ∷ [] → mid ≡ (at_turn old.0 (history core), (0, None) ∷ [])
      → new ≡ (idle (map (with_front (history now)) mid.0.passes), []) → new ≡ (idle (with_front (history now) p ∷ []), [])
  me_refused core now old mid new p one taken is = is ∙ ap (λ (ps : List (PassView C (Pair A R))). (idle (map (with_front (history now)) ps), [])) (ap (λ (m : Mine). m.0.passes) taken ∙ one)

  pub pass_after : (turn : Turn C A R) (pass new : Pass C A R) (q : PassView C (Pair A R)) → IsPassOf setup is_legal turn pass → new.seat.table_id ≡ pass.seat.table_id → new.seat.me ≡ (idle (q ∷ []), [])
      → setup q.start ≡ setup (start_of turn) → is_legal (setup (start_of turn)) q.front → new.calls ≡ places_of q.calls → IsPassOf setup is_legal turn new
  pass_after turn pass new q is same me start legal told = record {
    table = same ∙ is.table;
    empty = ap (λ (m : Mine). m.1) me;
    waits = ap (λ (m : Mine). m.0.holds) me;
    view = (q, ap (λ (m : Mine). m.0.passes) me, start);
    legal = subst (λ (l : List (Pair A R)). is_legal (setup (start_of turn)) l) (ap (λ (m : Mine). first_front m.0.passes) (sym me)) legal;
    told = told ∙ ap (λ (m : Mine). places_of (first_calls m.0.passes)) (sym me);
  }

  pub told_more : (pass : Pass C A R) (turn : Turn C A R) (p : PassView C (Pair A R)) (log : List (Pair A R)) (pair : Pair A R) (place : ℕ) (places : List ℕ) → IsPassOf setup is_legal turn pass → pass.seat.me.0.passes ≡ p ∷ []
      → place ≡ length log → places ≡ pass.calls ++ place ∷ [] → places ≡ places_of (with_entry log pair p).calls
  told_more pass turn p log pair place places is one at push =
      push ∙ (λ i. (is.told ∙ ap (λ (ps : List (PassView C (Pair A R))). places_of (first_calls ps)) one) i ++ at i ∷ []) ∙ sym (places_snoc p.calls (call_at (length log) pair))

  pub told_same : (pass : Pass C A R) (turn : Turn C A R) (p : PassView C (Pair A R)) (places : List ℕ) → IsPassOf setup is_legal turn pass → pass.seat.me.0.passes ≡ p ∷ [] → places ≡ pass.calls → places ≡ places_of p.calls
  told_same pass turn p places is one same = same ∙ is.told ∙ ap (λ (ps : List (PassView C (Pair A R))). places_of (first_calls ps)) one

  -- the front and the calls of a seat with this pass
  pub front_is : (me : Mine) (q : PassView C (Pair A R)) → me ≡ (idle (q ∷ []), []) → first_front me.0.passes ≡ q.front
  front_is me q is = ap (λ (m : Mine). first_front m.0.passes) is

  pub calls_are : (me : Mine) (q : PassView C (Pair A R)) → me ≡ (idle (q ∷ []), []) → first_calls me.0.passes ≡ q.calls
  calls_are me q is = ap (λ (m : Mine). first_calls m.0.passes) is

  -- the history without its last pair is the one that the core was stepped at
  pub stepped_at : (core now : C) (new : Mine) (q : PassView C (Pair A R)) (pair : Pair A R) → history now ≡ history core ++ pair ∷ [] → q.front ≡ history now → new ≡ (idle (q ∷ []), []) → before_last (first_front new.0.passes) ≡ history core
  stepped_at core now new q pair longer front me =
      let log = history core in
      let is : first_front new.0.passes ≡ log ++ pair ∷ [] = front_is new q me ∙ front ∙ longer in
      let size : length (log ++ pair ∷ []) - 1 ≡ length log = omega (arith, length-append log (pair ∷ [])) in
      ap (λ (l : List (Pair A R)). before_last l) is ∙ ap (λ (n : ℕ). take n (log ++ pair ∷ [])) size ∙ take-append_seam log (pair ∷ [])

  module _ (core now : C) (old new : Mine) (p : PassView C (Pair A R)) (at : ℕ) (fresh : List (List ℕ)) (asked : A) (reply : R) where
    abbrev pub Stores : Type 0
    Stores = (history now ≡ extended (history core) at fresh asked reply) × (new ≡ (idle (with_entry (history now) (pair_of (history core) at fresh asked reply) p ∷ []), []))

    -- what the steps of a call tell, put together
    pub stores : (mid : Mine) → old.0.passes ≡ p ∷ [] → mid ≡ (at_turn old.0 (history core), (0, None) ∷ []) → history now ≡ extended (history core) at fresh asked reply
        → ((pair : Pair A R) → history now ≡ mid.0.taken ++ pair ∷ [] → new ≡ (idle (map (with_entry (history now) pair) mid.0.passes), [])) → Stores
    stores mid one taken ok free =
        let pair = pair_of (history core) at fresh asked reply in
        (ok, me_entered core now old mid new p pair one taken (free pair (entry_at core now old mid pair taken ok)))

    abbrev pub Before : List (Pair A R)
    Before = before_last (first_front new.0.passes)

    before_is : Stores → Before ≡ history core
    before_is is = stepped_at core now new (with_entry (history now) (pair_of (history core) at fresh asked reply) p) (pair_of (history core) at fresh asked reply) is.0 refl is.1

    pub stores_entry : Stores → first_front new.0.passes ≡ extended Before at fresh asked reply
    stores_entry is =
        front_is new (with_entry (history now) (pair_of (history core) at fresh asked reply) p) is.1 ∙ is.0 ∙ ap (λ (l : List (Pair A R)). extended l at fresh asked reply) (sym (before_is is))

    pub goes_on : Stores → old.0.passes ≡ p ∷ [] → Begins p.front (history core) → Begins (first_front old.0.passes) Before
    goes_on is one begins =
        let front : first_front old.0.passes ≡ p.front = ap (λ (ps : List (PassView C (Pair A R))). first_front ps) one in
        subst (λ (l : List (Pair A R)). Begins l Before) (sym front) (subst (λ (l : List (Pair A R)). Begins p.front l) (sym (before_is is)) begins)

    pub adds_call : (place : ℕ) → Stores → old.0.passes ≡ p ∷ [] → place ≡ length (history now) → first_calls new.0.passes ≡ first_calls old.0.passes ++ call_at place (pair_of Before at fresh asked reply) ∷ []
    adds_call place is one here =
        let calls : first_calls old.0.passes ≡ p.calls = ap (λ (ps : List (PassView C (Pair A R))). first_calls ps) one in
        calls_are new (with_entry (history now) (pair_of (history core) at fresh asked reply) p) is.1
        ∙ (λ i. sym calls i ++ call_at (sym here i) (pair_of (sym (before_is is) i) at fresh asked reply) ∷ [])
