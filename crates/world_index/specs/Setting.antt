-- The words that replies set, each with the numbers whose replies did.
use Rattle.std.specs.Prelude.{ℕ, Bool, false, ◌==◌, ◌||◌, not, List, Option, Some, None, ◌&&◌, ◌≡◌}
use Rattle.std.specs.Map.{lookup}
use Rattle.std.specs.Str.{bytes_eq}
use Rattle.sso_base.specs.Words.{Word}
use Rattle.world_index.specs.declared.setters.Setter.{Setter}

-- the note of a word after a reply of this number set it
abbrev pub setter_noted : ℕ → Option Setter → Setter
setter_noted from None = record { first = from; several = false }
setter_noted from (Some s) = record { first = s.first; several = s.several || not (s.first == from) }

-- by the note of a word, a number other than this one set it
abbrev pub is_other : ℕ → Option Setter → Bool
is_other from None = false
is_other from (Some s) = s.several || not (s.first == from)

-- the note of a word
abbrev pub setter_of : List (Word × Setter) → Word → Option Setter
setter_of setters w = lookup (λ v. bytes_eq w v) setters

-- a number other than this one set the word
abbrev pub set_for_other : List (Word × Setter) → Word → ℕ → Bool
set_for_other setters w from = is_other from (setter_of setters w)

-- the word is noted as set under this number, and nothing else
abbrev pub IsSetterNoted : List (Word × Setter) → List (Word × Setter) → Word → ℕ → Type 0
IsSetterNoted before after word from =
    (w : Word) (other : ℕ)
    → set_for_other after w other ≡ ((bytes_eq word w && not (from == other)) || set_for_other before w other)
