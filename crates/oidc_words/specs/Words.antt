-- Membership of a text in a list, and texts as words separated by spaces (RFC 6749, 3.3).
use Rattle.std.specs.Prelude.{◌==◌, Bool, true, not, ◌&&◌, List, [], ◌∷◌, ◌++◌, length, filter, map, Option, Some, None}
use Rattle.std.specs.Borrow.{Bor}
use Rattle.std.specs.List.{list_all, list_any, slice_split, join_with_byte}
use Rattle.std.specs.Str.{bytes_eq}
use Rattle.sso_base.specs.Words.{Text}
use Rattle.sso_base.specs.Texts.{has_text}

-- ---- lists of texts

-- `has_text` with its arguments exchanged
abbrev pub is_one_of : List Text → Text → Bool
is_one_of ts t = has_text t ts

-- some text of the list differs from this one
abbrev pub has_other : Text → List Text → Bool
has_other t ts = list_any (λ u. not (bytes_eq t u)) ts

-- no text occurs twice
abbrev pub is_distinct : List Text → Bool
is_distinct [] = true
is_distinct (t ∷ ts) = not (has_text t ts) && is_distinct ts

-- each word is a known one, and none occurs twice
abbrev pub are_words : List Text → List Text → Bool
are_words known ws = list_all (λ w. has_text w known) ws && is_distinct ws

-- ---- a text is split

-- the words of a text, separated by one space each; two spaces in a row enclose an empty word
abbrev pub words_of : Text → List Text
words_of t = slice_split (λ b. b == 32) t

-- the text has the word
abbrev pub has_word : Text → Text → Bool
has_word word t = has_text word (words_of t)

abbrev pub is_filled : Text → Bool
is_filled t = not (length t == 0)

-- the words of a parameter; none if it is absent; empty words are left out
unfoldable pub parameter_words : Option Text → List Text
parameter_words None = []
parameter_words (Some t) = filter is_filled (words_of t)

-- ---- words are written

-- a word, and whether it is chosen
abbrev pub Choice : Type 0
Choice = Bool × Text

abbrev pub chosen : List Choice → List Text
chosen words = map (λ (word : Choice). word.1) (filter (λ (word : Choice). word.0) words)

-- the chosen words, in order, separated by one space each
abbrev pub spaced : List Choice → Text
spaced words = join_with_byte 32 (chosen words)

-- a choice as the code represents it
abbrev pub choice_of : Bool × Bor Text → Choice
choice_of word = (word.0, word.1.now)

-- ---- permutations of words

-- the list with the word inserted at each place
abbrev pub inserted : Text → List Text → List (List Text)
inserted w [] = (w ∷ []) ∷ []
inserted w (v ∷ vs) = (w ∷ v ∷ vs) ∷ map (λ us. v ∷ us) (inserted w vs)

abbrev pub inserted_in_each : Text → List (List Text) → List (List Text)
inserted_in_each w [] = []
inserted_in_each w (vs ∷ rest) = inserted w vs ++ inserted_in_each w rest

-- all permutations of the words
abbrev pub orders : List Text → List (List Text)
orders [] = [] ∷ []
orders (w ∷ ws) = inserted_in_each w (orders ws)
