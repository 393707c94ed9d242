-- Blanks at the ends of a text: spaces, or spaces and tabs.
use Rattle.std.specs.Prelude.{ℕ, ◌-◌, ◌==◌, ◌&&◌, ◌||◌, Bool, List, length, take, drop}
use Rattle.std.specs.List.{prefix_len, suffix_len}

-- a space, or a tab if tabs count
abbrev pub is_blank : Bool → ℕ → Bool
is_blank tabs b = b == 32 || (tabs && b == 9)

-- without the longest prefix, or the longest suffix, all of whose bytes pass the test
abbrev pub without_front : (ℕ → Bool) → List ℕ → List ℕ
without_front test text = drop (prefix_len test text) text

abbrev pub without_end : (ℕ → Bool) → List ℕ → List ℕ
without_end test text = take (length text - suffix_len test text) text

abbrev pub trimmed : Bool → List ℕ → List ℕ
trimmed tabs text = without_end (is_blank tabs) (without_front (is_blank tabs) text)
