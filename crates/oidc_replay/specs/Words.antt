-- The random words in a replay: each place draws four, by their numbers, from the trace's seed.
use Rattle.std.specs.Prelude.{ℕ, ◌+◌, ◌*◌, List, [], ◌∷◌}
use Rattle.sso_base.specs.Words.{Word}
use Rattle.server_desk.specs.Ahead.{word_of_number}

-- the four words of the place after `count` places
abbrev pub words_after : List ℕ → ℕ → List Word
words_after seed count =
    word_of_number seed (4 * count + 1) ∷ word_of_number seed (4 * count + 2) ∷ word_of_number seed (4 * count + 3)
    ∷ word_of_number seed (4 * count + 4) ∷ []
