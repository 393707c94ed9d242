-- The trace of a storm of `count` logins, whose users are chosen by a number.
use Rattle.std.specs.Prelude.{ℕ, suc, zero, ◌+◌, List, [], ◌∷◌, ◌++◌, codes}
use Rattle.std.specs.Int.{w64, to_be_bytes}
use Rattle.hex.specs.Hex.{encode_lower}
use Rattle.sso_base.specs.Words.{Text}
use Rattle.storm_texts.specs.Logins.{next, login_of, login_lines, places_of}

-- ---- before login number k

-- the state of the generator
abbrev pub state_before : ℕ → ℕ → ℕ
state_before number zero = number
state_before number (suc k) = next (state_before number k)

-- the number of places; how many a login takes does not depend on the state
abbrev pub places_before : ℕ → ℕ
places_before zero = 0
places_before (suc k) = places_before k + places_of (login_of k 0 0)

-- the lines of the logins
abbrev pub lines_before : ℕ → ℕ → Text
lines_before number zero = []
lines_before number (suc k) = lines_before number k ++ login_lines (login_of k (state_before number (suc k)) (places_before k))

-- ---- the trace

-- 16 zero bytes, then the number in 8 bytes, big-endian
abbrev pub seed_of : ℕ → List ℕ
seed_of number =
    (0 ∷ 0 ∷ 0 ∷ 0 ∷ 0 ∷ 0 ∷ 0 ∷ 0 ∷ 0 ∷ 0 ∷ 0 ∷ 0 ∷ 0 ∷ 0 ∷ 0 ∷ 0 ∷ []) ++ to_be_bytes w64 number

unfoldable pub header : ℕ → Text
header number = codes "sso-trace 1 " ++ encode_lower (seed_of number) ++ 10 ∷ []

unfoldable pub trace_text : ℕ → ℕ → Text
trace_text number count = header number ++ lines_before number count
