-- Texts in one buffer: after each there is a byte that no text in UTF-8 has (RFC 3629, 1).
use Rattle.std.specs.Prelude.{◌≡◌, ℕ, Bool, ◌==◌, List, [], ◌∷◌, ◌++◌, if◌then◌else◌}
use Rattle.std.specs.List.{onto_first}
use Rattle.sso_base.specs.Words.{Text}
use Rattle.sso_base.specs.Values.{AreTexts}

-- the byte behind a text
abbrev pub is_end : ℕ → Bool
is_end b = b == 255

-- a buffer of these texts
abbrev pub buffer_of : List Text → List ℕ
buffer_of [] = []
buffer_of (t ∷ ts) = t ++ 255 ∷ buffer_of ts

-- the texts in a buffer
abbrev pub texts_in : List ℕ → List Text
texts_in [] = []
texts_in (b ∷ bs) = if is_end b then [] ∷ texts_in bs else onto_first b (texts_in bs)

-- the bytes are a buffer of texts
pub record IsBuffer (bytes : List ℕ) : Type 0 where
  pub texts : AreTexts (texts_in bytes)
  pub whole : buffer_of (texts_in bytes) ≡ bytes
