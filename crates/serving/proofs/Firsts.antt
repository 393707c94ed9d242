-- The first desks of a server, at which its workers serve.
use Rattle.std.proofs.Common.{◌≡◌, ℕ, zero, suc, min, false, List, [], ◌∷◌, length, take, None, refl, sym, ap, subst, ◌∙◌, arith}
use Rattle.std.specs.List.{All}
use Rattle.std.proofs.lemmas.List.{length-take}
use Rattle.std.proofs.lemmas.List.Elements.{All-take}
use Rattle.sso_base.specs.Words.{Text}
use Rattle.sso_base.specs.declared.history.Pair.{Pair}
use Rattle.server_desk.specs.declared.desk.Desk.{Desk}
use Rattle.serving.specs.declared.summary.Summary.{Summary}
use Rattle.serving.specs.Manner.{Manner}
use Rattle.serving.specs.Summaries.{Telling, AllEndedWell, SummarisesDesks, Summarises, first_of}
use Rattle.work_permits.specs.declared.gate.Gate.{Gate}
use Rattle.work_permits.specs.Gates.{IsGateFor}

first_is_take : {X : Type 0} (n : ℕ) (xs : List X) → take n xs ≡ first_of n xs
first_is_take zero [] = refl
first_is_take (suc n) [] = refl
first_is_take zero (x ∷ xs) = refl
first_is_take (suc n) (x ∷ xs) = ap (λ l. x ∷ l) (first_is_take n xs)

first_none : {X : Type 0} (n : ℕ) (xs : List X) → min (length xs) n ≡ 0 → first_of n xs ≡ []
first_none n [] e = refl
first_none zero (x ∷ xs) e = refl
first_none (suc n) (x ∷ xs) e = absurd (omega arith)

-- there are as many of them as workers, or as desks
pub how_many : {X : Type 0} (n : ℕ) (xs now : List X) → now ≡ take n xs → length now ≡ min n (length xs)
how_many n xs now e = ap (λ l. length l) e ∙ length-take n xs

-- what holds of all desks holds of them
pub hold : {X : Type 0} (P : X → Type 0) (n : ℕ) (xs now : List X) → now ≡ take n xs → All P xs → All P now
hold P n xs now e h = subst (λ l. All P l) (sym e) (All-take P n xs h)

-- a gate for a number of workers, by what the number is
pub gate_for : (gate : Gate) (n k : ℕ) → n ≡ k → IsGateFor n gate → IsGateFor k gate
gate_for gate n k e g = subst (λ (i : ℕ). IsGateFor i gate) e g

module _ {D L C W S K A R Core Setup : Type 0} (t : Telling D L C W S K) (m : Manner A R) (most : Setup → ℕ) (setup : Core → Setup)
    (history_of : Core → List (Pair A R)) (is_legal : Setup → List (Pair A R) → Type 0) (configured : Setup) (place : Text) where
  -- the first desks served
  pub served : (olds now news : List (Desk D L C W)) (s : Summary Core A R) → now ≡ take m.workers olds
      → SummarisesDesks t m most setup history_of is_legal configured place now news s
      → Summarises t m most setup history_of is_legal configured place olds news s
  served olds now news s e done =
      subst (λ (l : List (Desk D L C W)). SummarisesDesks t m most setup history_of is_legal configured place l news s)
      (e ∙ first_is_take m.workers olds) done

  -- there are none
  pub unserved : (olds now : List (Desk D L C W)) → min (length olds) m.workers ≡ 0 → now ≡ take 0 olds
      → Summarises t m most setup history_of is_legal configured place olds now (record { served = 0; entries = 0; fault = false; closed = None })
  unserved olds now e is =
      subst
      (λ (l : List (Desk D L C W)). SummarisesDesks t m most setup history_of is_legal configured place l now (record { served = 0; entries = 0; fault = false; closed = None }))
      (sym (first_none m.workers olds e))
      (record { none = λ _. (refl, refl, refl, refl, is); some = λ few. absurd (omega arith); failed = λ never. absurd (cc); well = λ _. subst (λ (l : List (Desk D L C W)). AllEndedWell t [] l) (sym is) tt })
