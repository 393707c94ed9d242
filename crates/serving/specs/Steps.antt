-- Steps of a core: their inputs and their effects.
use Rattle.std.specs.Prelude.{◌≡◌, ℕ, ◌+◌, ◌*◌, ◌<◌, List, [], ◌∷◌, ◌++◌, length, Option}
use Rattle.sso_base.specs.Words.{Word, fresh_word}
use Rattle.sso_base.specs.Journal.{history_weight}
use Rattle.sso_base.specs.declared.history.Pair.{Pair}
use Rattle.server_desk.specs.Ahead.{IsTold}
use Rattle.turn_store.specs.declared.view.Called.{Called}
use Rattle.turn_store.specs.declared.store.Pass.{Pass}
use Rattle.turn_store.specs.Places.{Begins, call_at}
use Rattle.turn_store.specs.Passes.{front_of, calls_of, pair_of}
use Rattle.serving.specs.declared.no_reply.NoReply.{NoReply}
use Rattle.serving.specs.declared.no_reply.NoReply.TheVariants.{NoMemory, Full}

-- one step: the history before it, its moment and its words, the request, and the reply
pub record Stepped (A R : Type 0) : Type 0 where
  pub before : List (Pair A R)
  pub at : ℕ
  pub fresh : List Word
  pub asked : A
  pub reply : R

module _ {A R : Type 0} where
  -- the pair that the step stored
  abbrev pub pair_from : Stepped A R → Pair A R
  pair_from s = pair_of s.before s.at s.fresh s.asked s.reply

  -- the history after it
  abbrev pub history_after : Stepped A R → List (Pair A R)
  history_after s = s.before ++ pair_from s ∷ []

  -- the call that made it, with its place
  abbrev pub called_of : Stepped A R → Called (Pair A R)
  called_of s = call_at (length s.before + 1) (pair_from s)

  -- it was called with this reading of the clock, and with the four words that were drawn then; readings count from 0
  pub record IsDrawn (moments : ℕ → Option ℕ) (words : ℕ → Option Word) (reading : ℕ) (s : Stepped A R) : Type 0 where
    pub moment : IsTold (moments reading) s.at
    pub fresh : (k : ℕ) → k < 4 → IsTold (words (4 * reading + k)) (fresh_word s.fresh k)

  -- the history and the request weigh more than the limit of a history
  abbrev pub IsFull : (A → ℕ) → ℕ → List (Pair A R) → A → Type 0
  IsFull weighs most history asked = most < history_weight weighs history + weighs asked

  -- why a step was not made, given the history that the pass has then seen
  abbrev pub IsNoStep : (A → ℕ) → ℕ → List (Pair A R) → A → NoReply → Type 0
  IsNoStep weighs most history asked NoMemory = Unit {0}
  IsNoStep weighs most history asked Full = IsFull weighs most history asked
  IsNoStep weighs most history asked why = ⊥

  -- the pass made this step, after all that it had seen
  pub record Made {C : Type 0} (old new : Pass C A R) (s : Stepped A R) : Type 0 where
    pub later : Begins (front_of old) s.before
    pub front : front_of new ≡ history_after s
    pub calls : calls_of new ≡ calls_of old ++ called_of s ∷ []

-- the pass made one step for this request, with this reply, by the first reading of the clock and the first four words
abbrev pub StepsOnce : {C A R : Type 0} → Pass C A R → Pass C A R → A → (ℕ → Option ℕ) → (ℕ → Option Word) → R → Type 0
StepsOnce {C} {A} {R} old new asked moments words reply =
    (s : Stepped A R) × Made old new s × (s.asked ≡ asked) × (s.reply ≡ reply) × IsDrawn moments words 0 s
