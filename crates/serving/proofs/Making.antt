-- A call of a store makes a step.
use Rattle.std.proofs.Common.{◌≡◌, ℕ, ◌+◌, ◌*◌, ◌<◌, List, [], ◌∷◌, ◌++◌, length, Option, ap, ◌∙◌, subst, arith}
use Rattle.std.proofs.lemmas.List.{length-append}
use Rattle.sso_base.specs.Words.{Word, fresh_word}
use Rattle.sso_base.specs.declared.history.Pair.{Pair}
use Rattle.sso_base.specs.Journal.{extended}
use Rattle.server_desk.specs.Ahead.{IsTold}
use Rattle.turn_store.specs.declared.store.Pass.{Pass}
use Rattle.turn_store.specs.Places.{Begins, before_last, call_at}
use Rattle.turn_store.specs.Passes.{front_of, calls_of, pair_of}
use Rattle.serving.specs.Steps.{Stepped, Made}

abbrev pub stepped : {A R : Type 0} → List (Pair A R) → ℕ → List Word → A → R → Stepped A R
stepped before at fresh asked reply = record { before = before; at = at; fresh = fresh; asked = asked; reply = reply }

pub made : {C A R : Type 0} (old new : Pass C A R) (at : ℕ) (fresh : List Word) (asked : A) (reply : R) (place : ℕ)
    → Begins (front_of old) (before_last (front_of new))
    → front_of new ≡ extended (before_last (front_of new)) at fresh asked reply
    → place ≡ length (front_of new)
    → calls_of new ≡ calls_of old ++ call_at place (pair_of (before_last (front_of new)) at fresh asked reply) ∷ []
    → Made old new (stepped (before_last (front_of new)) at fresh asked reply)
made {C} {A} {R} old new at fresh asked reply place later front is calls =
    let before = before_last (front_of new) in
    let at_place : place ≡ length before + 1 = is ∙ ap (λ (h : List (Pair A R)). length h) front ∙ length-append before (pair_of before at fresh asked reply ∷ []) in
    record {
      later = later;
      front = front;
      calls = calls ∙ ap (λ (n : ℕ). calls_of old ++ call_at n (pair_of before at fresh asked reply) ∷ []) at_place;
    }

-- the first reading
pub first_drawn : (words : ℕ → Option Word) (fresh : List Word) → ((k : ℕ) → k < 4 → IsTold (words k) (fresh_word fresh k)) → (k : ℕ) → k < 4 → IsTold (words (4 * 0 + k)) (fresh_word fresh k)
first_drawn words fresh told k low = let same : k ≡ 4 * 0 + k = omega arith in subst (λ (n : ℕ). IsTold (words n) (fresh_word fresh k)) same (told k low)
