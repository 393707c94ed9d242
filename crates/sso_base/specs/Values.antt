-- The values of types. A definition takes any number and any list; contracts about printed texts or about drawn words need
-- these bounds.
use Rattle.std.specs.Prelude.{ℕ, ◌<◌, ◌^◌, List}
use Rattle.std.specs.Str.{IsUtf8}
use Rattle.std.specs.List.{AllByRecursion}
use Rattle.sso_base.specs.Words.{Text, Word, IsWord}

-- a number of 64 bits
abbrev pub IsWide : ℕ → Type 0
IsWide n = n < 2 ^ 64

-- texts in UTF-8
abbrev pub AreTexts : List Text → Type 0
AreTexts texts = AllByRecursion IsUtf8 texts

abbrev pub AreWords : List Word → Type 0
AreWords words = AllByRecursion IsWord words

-- the latest moment, in seconds since the epoch; a moment plus any lifetime fits into 40 bits (our choice)
abbrev pub latest_moment : ℕ
latest_moment = 1099511000000
