-- The random words that were drawn for the pairs of a past.
use Rattle.std.specs.Prelude.{◌≡◌, ◌<◌, ℕ, List, ◌∷◌, ◌++◌}
use Rattle.sso_base.specs.Words.{Word, fresh_word}
use Rattle.sso_base.specs.declared.history.Pair.{Pair}

-- the word is one of the four that were drawn for some pair of the past
pub record IsDrawn {A R : Type 0} (past : List (Pair A R)) (w : Word) : Type 0 where
  pub later : List (Pair A R)
  pub maker : Pair A R
  pub earlier : List (Pair A R)
  pub parts : past ≡ later ++ maker ∷ earlier
  pub number : ℕ
  pub low : number < 4
  pub drawn : w ≡ fresh_word maker.entry.fresh number
