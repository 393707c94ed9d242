-- The future values of a clock or a draw, if they are known: those of a real one are not.
use Rattle.std.specs.Prelude.{◌≡◌, ℕ, ◌+◌, ◌-◌, ◌^◌, min, List, [], ◌∷◌, ◌++◌, length, slice_index_or, Option, Some, None}
use Rattle.std.specs.Int.{w64, to_be_bytes}
use Rattle.sso_base.specs.Words.{Word}

-- this is the returned value, if that is known
abbrev pub IsTold : {A : Type 0} → Option A → A → Type 0
IsTold None value = Unit {0}
IsTold (Some told) value = value ≡ told

-- `count` values were taken, and those after them come next
abbrev pub MovedOn : {A : Type 0} → (ℕ → Option A) → (ℕ → Option A) → ℕ → Type 0
MovedOn old new count = (i : ℕ) → new i ≡ old (i + count)

-- a clock in memory: the moment that it returns next, and those after it
pub record ClockMemory : Type 0 where
  pub next : ℕ
  pub behind : List ℕ

-- it returns them in their order, and repeats the last one forever
abbrev pub moments_ahead : ClockMemory → ℕ → Option ℕ
moments_ahead clock i = Some (slice_index_or (clock.next ∷ clock.behind) (min i (length clock.behind)) clock.next)

-- the clock after it returned the moment `at`
abbrev pub clock_behind : ℕ → List ℕ → ClockMemory
clock_behind at [] = record { next = at; behind = [] }
clock_behind at (next ∷ behind) = record { next = next; behind = behind }

-- a draw in memory: the seed of its words, and the number of the next one
pub record DrawMemory : Type 0 where
  pub seed : List ℕ
  pub number : ℕ

-- the word of a number: the seed, then the number in 8 bytes, big-endian
abbrev pub word_of_number : List ℕ → ℕ → Word
word_of_number seed number = seed ++ to_be_bytes w64 number

-- it gives the words of the numbers in their order, and repeats that of the last number of 64 bits forever
abbrev pub words_ahead : DrawMemory → ℕ → Option Word
words_ahead draw i = Some (word_of_number draw.seed (min (draw.number + i) (2 ^ 64 - 1)))
