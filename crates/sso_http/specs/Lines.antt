-- The head of a request as lines (RFC 9112, 2.1 and 2.2). A line ends with a line feed. A carriage return directly before the
-- line feed is not part of the line.
use Rattle.std.specs.Prelude.{◌≡◌, ℕ, ◌==◌, ◌<◌, not, Bool, true, false, List, [], ◌∷◌, ◌++◌, length}
use Rattle.std.specs.List.{list_all}

-- none of the bytes is a line feed
abbrev pub is_line : List ℕ → Bool
is_line line = list_all (λ b. not (b == 10)) line

-- there is nothing before the line feed, or only a carriage return
abbrev pub is_empty_line : List ℕ → Bool
is_empty_line [] = true
is_empty_line (b ∷ []) = b == 13
is_empty_line (b ∷ c ∷ line) = false

abbrev pub is_full_line : List ℕ → Bool
is_full_line line = not (is_empty_line line)

-- the bytes of lines, each with its line feed
abbrev pub text_of : List (List ℕ) → List ℕ
text_of [] = []
text_of (line ∷ lines) = line ++ 10 ∷ text_of lines

-- a head: empty lines, then one or more that are not empty, and the empty line that ends it
pub record IsHead (bytes : List ℕ) : Type 0 where
  pub before : List (List ℕ)
  pub lines : List (List ℕ)
  pub last : List ℕ
  pub parts : bytes ≡ text_of (before ++ lines ++ last ∷ [])
  pub feeds : list_all is_line (before ++ lines ++ last ∷ []) ≡ true
  pub before_empty : list_all is_empty_line before ≡ true
  pub lines_there : 0 < length lines
  pub lines_full : list_all is_full_line lines ≡ true
  pub last_empty : is_empty_line last ≡ true

-- the bytes do not begin with a head, nor are they one
abbrev pub HasNoHead : List ℕ → Type 0
HasNoHead bytes = (head rest : List ℕ) → bytes ≡ head ++ rest → ¬ (IsHead head)
