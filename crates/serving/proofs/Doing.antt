-- What was done, one part after another.
use Rattle.std.proofs.Common.{◌≡◌, ℕ, suc, ◌+◌, ◌*◌, ◌<◌, List, [], ◌∷◌, ◌++◌, length, Option, refl, sym, ap, ◌∙◌, subst, arith}
use Rattle.std.proofs.lemmas.List.{append-nil, length-append}
use Rattle.sso_base.specs.Words.{Word, fresh_word}
use Rattle.sso_base.specs.declared.history.Pair.{Pair}
use Rattle.server_desk.specs.Ahead.{IsTold, MovedOn}
use Rattle.server_desk.specs.Links.{LinkState}
use Rattle.turn_store.specs.declared.store.Pass.{Pass}
use Rattle.turn_store.specs.Places.{Begins}
use Rattle.turn_store.specs.Passes.{front_of, calls_of}
use Rattle.serving.specs.LinkCalls.{LinkCall, TookCalls}
use Rattle.serving.specs.Steps.{Stepped, history_after, IsDrawn, Made}
use Rattle.serving.specs.Work.{Work, DrawnFrom, MadeAll, Did}
use Rattle.turn_store.proofs.Totals.{begins_on, begins_same}
use Rattle.serving.proofs.Calls.{took_both}
use Rattle.serving.proofs.Histories.{made_both}

pub moved_none : {V : Type 0} (x : ℕ → Option V) → MovedOn x x 0
moved_none x i = let same : i ≡ i + 0 = omega arith in ap x same

pub moved_both : {V : Type 0} (x y z : ℕ → Option V) (n k : ℕ) → MovedOn x y n → MovedOn y z k → MovedOn x z (n + k)
moved_both x y z n k first second i = let same : i + k + n ≡ i + (n + k) = omega arith in second i ∙ first (i + k) ∙ ap x same

module _ {A R : Type 0} where
  one_later : (moments moments' : ℕ → Option ℕ) (words words' : ℕ → Option Word) (n r : ℕ) (s : Stepped A R)
      → MovedOn moments moments' n → MovedOn words words' (4 * n) → IsDrawn moments' words' r s → IsDrawn moments words (n + r) s
  one_later moments moments' words words' n r s clock draw drawn = record {
    moment = let same : r + n ≡ n + r = omega arith in subst (λ (o : Option ℕ). IsTold o s.at) (clock r ∙ ap moments same) drawn.moment;
    fresh = λ (k : ℕ) (low : k < 4). let same : 4 * r + k + 4 * n ≡ 4 * (n + r) + k = omega arith in subst (λ (o : Option Word). IsTold o (fresh_word s.fresh k)) (draw (4 * r + k) ∙ ap words same) (drawn.fresh k low);
  }

  pub drawn_later : (moments moments' : ℕ → Option ℕ) (words words' : ℕ → Option Word) (n r : ℕ) (steps : List (Stepped A R))
      → MovedOn moments moments' n → MovedOn words words' (4 * n) → DrawnFrom moments' words' r steps → DrawnFrom moments words (n + r) steps
  drawn_later moments moments' words words' n r [] clock draw drawn = tt
  drawn_later moments moments' words words' n r (s ∷ steps) clock draw drawn =
      let same : n + suc r ≡ suc (n + r) = omega arith in (
        one_later moments moments' words words' n r s clock draw drawn.0,
        subst (λ (i : ℕ). DrawnFrom moments words i steps) same (drawn_later moments moments' words words' n (suc r) steps clock draw drawn.1),
      )

  drawn_both : (moments : ℕ → Option ℕ) (words : ℕ → Option Word) (r : ℕ) (xs ys : List (Stepped A R))
      → DrawnFrom moments words r xs → DrawnFrom moments words (length xs + r) ys → DrawnFrom moments words r (xs ++ ys)
  drawn_both moments words r [] ys first second = let same : 0 + r ≡ r = omega arith in subst (λ (i : ℕ). DrawnFrom moments words i ys) same second
  drawn_both moments words r (x ∷ xs) ys first second =
      let same : suc (length xs) + r ≡ length xs + suc r = omega arith in
      (first.0, drawn_both moments words (suc r) xs ys first.1 (subst (λ (i : ℕ). DrawnFrom moments words i ys) same second))

  abbrev pub with_calls : Work A R → List LinkCall → Work A R
  with_calls w calls = record { steps = w.steps; calls = w.calls ++ calls; readings = w.readings }

  abbrev pub with_work : Work A R → Work A R → Work A R
  with_work v w = record { steps = v.steps ++ w.steps; calls = v.calls ++ w.calls; readings = v.readings + w.readings }

  abbrev pub calls_alone : List LinkCall → Work A R
  calls_alone calls = record { steps = []; calls = calls; readings = 0 }

  abbrev pub no_step : List LinkCall → Work A R
  no_step calls = record { steps = []; calls = calls; readings = 1 }

  abbrev pub one_step : List LinkCall → Stepped A R → Work A R
  one_step calls s = record { steps = s ∷ []; calls = calls; readings = 1 }

  -- the steps of both parts are counted
  pub places_both : (old mid new : ℕ) (v w : Work A R) → mid ≡ old + length v.steps → new ≡ mid + length w.steps → new ≡ old + length (v.steps ++ w.steps)
  places_both old mid new v w first second = let both : length (v.steps ++ w.steps) ≡ length v.steps + length w.steps = length-append v.steps w.steps in omega arith

  module _ {C : Type 0} where
    pub none_made : (pass pass' : Pass C A R) → Begins (front_of pass) (front_of pass') → calls_of pass' ≡ calls_of pass → MadeAll pass pass' []
    none_made pass pass' later calls = record { later = later; lie = later; calls = calls ∙ sym (append-nil (calls_of pass)) }

    -- the link was called, and nothing else was done
    pub did_calls : (pass : Pass C A R) (link link' : LinkState) (moments : ℕ → Option ℕ) (words : ℕ → Option Word) (calls : List LinkCall)
        → TookCalls link link' calls → Did pass pass link link' moments moments words words (calls_alone calls)
    did_calls pass link link' moments words calls sent = record {
      made = none_made pass pass (begins_same (front_of pass)) refl;
      sent = sent;
      drawn = tt;
      read = omega arith;
      clock = moved_none moments;
      draw = moved_none words;
    }

    -- the link was called, and then a step was refused
    pub did_no_step : (pass pass' : Pass C A R) (link link' : LinkState) (moments moments' : ℕ → Option ℕ) (words words' : ℕ → Option Word) (calls : List LinkCall)
        → TookCalls link link' calls → Begins (front_of pass) (front_of pass') → calls_of pass' ≡ calls_of pass → MovedOn moments moments' 1 → MovedOn words words' 4
        → Did pass pass' link link' moments moments' words words' (no_step calls)
    did_no_step pass pass' link link' moments moments' words words' calls sent later refused clock draw = record {
      made = none_made pass pass' later refused;
      sent = sent;
      drawn = tt;
      read = omega arith;
      clock = clock;
      draw = draw;
    }

    -- the link was called, and then a step was made
    pub did_one_step : (pass pass' : Pass C A R) (link link' : LinkState) (moments moments' : ℕ → Option ℕ) (words words' : ℕ → Option Word) (calls : List LinkCall) (s : Stepped A R)
        → TookCalls link link' calls → Made pass pass' s → IsDrawn moments words 0 s → MovedOn moments moments' 1 → MovedOn words words' 4
        → Did pass pass' link link' moments moments' words words' (one_step calls s)
    did_one_step pass pass' link link' moments moments' words words' calls s sent made drawn clock draw =
        let whole : Begins (history_after s) (front_of pass') = subst (λ (h : List (Pair A R)). Begins (history_after s) h) (sym made.front) (begins_same (history_after s)) in
        record {
          made = record {
            later = begins_on (front_of pass) s.before (front_of pass') made.later (begins_on s.before (history_after s) (front_of pass') (_, refl) whole);
            lie = (made.later, whole);
            calls = made.calls;
          };
          sent = sent;
          drawn = (drawn, tt);
          read = omega arith;
          clock = clock;
          draw = draw;
        }

    -- the link was called at last
    pub did_then_calls : (pass pass' : Pass C A R) (link link' link'' : LinkState) (moments moments' : ℕ → Option ℕ) (words words' : ℕ → Option Word) (w : Work A R) (calls : List LinkCall)
        → Did pass pass' link link' moments moments' words words' w → TookCalls link' link'' calls → Did pass pass' link link'' moments moments' words words' (with_calls w calls)
    did_then_calls pass pass' link link' link'' moments moments' words words' w calls did sent = record {
      made = did.made;
      sent = took_both link link' link'' w.calls calls did.sent sent;
      drawn = did.drawn;
      read = did.read;
      clock = did.clock;
      draw = did.draw;
    }

    -- the clock was read once for each step of the first part
    pub did_both : (p q r : Pass C A R) (link link' link'' : LinkState) (moments moments' moments'' : ℕ → Option ℕ) (words words' words'' : ℕ → Option Word) (v w : Work A R)
        → Did p q link link' moments moments' words words' v → v.readings ≡ length v.steps → Did q r link' link'' moments' moments'' words' words'' w
        → Did p r link link'' moments moments'' words words'' (with_work v w)
    did_both p q r link link' link'' moments moments' moments'' words words' words'' v w first read second =
        let four : 4 * v.readings + 4 * w.readings ≡ 4 * (v.readings + w.readings) = omega arith in
        let both : length (v.steps ++ w.steps) ≡ length v.steps + length w.steps = length-append v.steps w.steps in
        let reads = second.read in
        let from : v.readings + 0 ≡ length v.steps + 0 = ap (λ (n : ℕ). n + 0) read in
        record {
          made = made_both p q r v.steps w.steps first.made second.made;
          sent = took_both link link' link'' v.calls w.calls first.sent second.sent;
          drawn = drawn_both moments words 0 v.steps w.steps first.drawn (subst (λ (i : ℕ). DrawnFrom moments words i w.steps) from (drawn_later moments moments' words words' v.readings 0 w.steps first.clock first.draw second.drawn));
          read = omega arith;
          clock = moved_both moments moments' moments'' v.readings w.readings first.clock second.clock;
          draw = subst (λ (n : ℕ). MovedOn words words'' n) four (moved_both words words' words'' (4 * v.readings) (4 * w.readings) first.draw second.draw);
        }
