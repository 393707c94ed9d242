-- The words of a line: visible ASCII, separated by single spaces.
use Rattle.std.specs.Prelude.{◌≡◌, ◌<◌, ℕ, Bool, ◌&&◌, nat_le, List, length, Option, Some, None, if◌then◌else◌}
use Rattle.std.specs.List.{list_all, AllByRecursion, join_with_byte}
use Rattle.sso_base.specs.Words.{Text}
use Rattle.oidc_words.specs.Words.{is_filled, words_of}

-- visible ASCII and spaces
abbrev pub is_plain : List ℕ → Bool
is_plain line = list_all (λ b. nat_le 32 b && nat_le b 126) line

-- the words of a line; none if it is not words of visible ASCII, separated by single spaces
abbrev pub words_in : List ℕ → Option (List Text)
words_in line = if is_plain line && list_all is_filled (words_of line) then Some (words_of line) else None

-- ---- the same in elementary terms

-- a byte of visible ASCII
abbrev pub IsVisible : ℕ → Type 0
IsVisible b = (32 < b) × (b < 127)

-- a word: not empty, of visible ASCII
pub record IsVisibleWord (word : Text) : Type 0 where
  pub filled : 0 < length word
  pub visible : AllByRecursion IsVisible word

-- the line is these words, separated by single spaces
pub record AreWordsOf (words : List Text) (line : List ℕ) : Type 0 where
  pub some : 0 < length words
  pub visible : AllByRecursion IsVisibleWord words
  pub joined : line ≡ join_with_byte 32 words
