-- Words for samples: 31 zeros and a number.
use Rattle.std.proofs.Common.{ℕ, ◌+◌, List, [], ◌∷◌, ◌++◌, replicate}
use Rattle.sso_base.specs.Words.{Word}

abbrev pub word : ℕ → Word
word n = replicate 31 0 ++ n ∷ []

-- the four words of an entry, from this number on
abbrev pub words : ℕ → List Word
words n = word n ∷ word (n + 1) ∷ word (n + 2) ∷ word (n + 3) ∷ []
