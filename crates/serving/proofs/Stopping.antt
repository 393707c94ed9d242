-- The input of the next step, which was not made, and the run with that step.
use Rattle.std.proofs.Common.{List, [], ◌∷◌, ◌++◌, ℕ, Option, sym, subst}
use Rattle.serving.specs.LinkCalls.{LinkCall}
use Rattle.serving.specs.Manner.{Manner}
use Rattle.serving.specs.Steps.{Stepped}
use Rattle.serving.specs.Serving.{GoesOn, IsRun, LeadsTo, IsNextAsk}

module _ {A R : Type 0} (m : Manner A R) where
  goes_on : (reply : R) (steps : List (Stepped A R)) (calls : List LinkCall) (s : Stepped A R) → LeadsTo m reply steps calls s.asked → GoesOn m reply (steps ++ s ∷ []) calls
  goes_on reply [] [] s leads = absurd leads
  goes_on reply [] (call ∷ []) s leads = (leads.0, leads.1, tt)
  goes_on reply [] (call ∷ other ∷ calls) s leads = absurd leads
  goes_on reply (x ∷ steps) [] s leads = absurd leads
  goes_on reply (x ∷ steps) (call ∷ calls) s leads = (leads.0, leads.1, goes_on x.reply steps calls s leads.2)

  leads_to : (reply : R) (steps : List (Stepped A R)) (calls : List LinkCall) (s : Stepped A R) → GoesOn m reply (steps ++ s ∷ []) calls → GoesOn m reply steps calls → LeadsTo m reply steps calls s.asked
  leads_to reply [] [] s goes so = absurd goes
  leads_to reply [] (call ∷ []) s goes so = (goes.0, goes.1)
  leads_to reply [] (call ∷ other ∷ calls) s goes so = absurd so
  leads_to reply (x ∷ steps) [] s goes so = absurd goes
  leads_to reply (x ∷ steps) (call ∷ calls) s goes so = (goes.0, goes.1, leads_to x.reply steps calls s goes.2 so.2)

  -- a step with this input would continue the run
  pub run_with : (left left' : Option (List ℕ)) (steps : List (Stepped A R)) (calls : List LinkCall) (s : Stepped A R) → IsNextAsk m left left' steps calls s.asked → IsRun m left left' (steps ++ s ∷ []) calls
  run_with left left' [] calls s next = (next.1, subst (λ (cs : List LinkCall). GoesOn m s.reply [] cs) (sym next.0) tt)
  run_with left left' (x ∷ steps) calls s next = (next.0, goes_on x.reply steps calls s next.1)

  -- and the other way round
  pub next_of_run : (left left' : Option (List ℕ)) (steps : List (Stepped A R)) (calls : List LinkCall) (s : Stepped A R) → IsRun m left left' (steps ++ s ∷ []) calls → IsRun m left left' steps calls → IsNextAsk m left left' steps calls s.asked
  next_of_run left left' [] calls s run so = (so, run.0)
  next_of_run left left' (x ∷ steps) calls s run so = (run.0, leads_to x.reply steps calls s run.1 so.1)
