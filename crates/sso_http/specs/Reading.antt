-- What a reader of a head knows, byte by byte, about the bytes so far. The lists here have the newest byte first.
use Rattle.std.specs.Prelude.{◌≡◌, ℕ, ◌==◌, ◌&&◌, ◌||◌, not, Bool, true, false, List, [], ◌∷◌, reverse, if◌then◌else◌, ◌++◌}
use Rattle.sso_http.specs.Lines.{is_empty_line}
use Rattle.sso_http.specs.declared.head.Begun.{Begun}
use Rattle.sso_http.specs.declared.head.Begun.TheVariants.{Nothing, Return, More}
use Rattle.sso_http.specs.declared.head.Reader.{Reader}

-- a line feed ends a line; any other byte is added to the current line
abbrev pub after_byte : ℕ → List ℕ → List ℕ
after_byte b line = if b == 10 then [] else b ∷ line

-- the current line: the bytes since the last line feed
abbrev pub begun_line : List ℕ → List ℕ
begun_line [] = []
begun_line (b ∷ seen) = after_byte b (begun_line seen)

-- some complete line is not empty
abbrev pub has_full_line : List ℕ → Bool
has_full_line [] = false
has_full_line (b ∷ seen) = (b == 10 && not (is_empty_line (begun_line seen))) || has_full_line seen

-- the last byte ends an empty line, and a line before it is not empty
abbrev pub ends_head : List ℕ → Bool
ends_head [] = false
ends_head (b ∷ seen) = b == 10 && is_empty_line (begun_line seen) && has_full_line seen

-- some prefix ends a head
abbrev pub has_head : List ℕ → Bool
has_head [] = false
has_head (b ∷ seen) = ends_head (b ∷ seen) || has_head seen

-- the kind of the current line, as far as it matters
abbrev pub kind_of : List ℕ → Begun
kind_of [] = Nothing
kind_of (b ∷ []) = if b == 13 then Return else More
kind_of (b ∷ c ∷ line) = More

-- what a reader keeps of the bytes so far
pub record Tracks (r : Reader) : Type 0 where
  pub begun : r.begun ≡ kind_of (begun_line (reverse r.bytes.items))
  pub line : r.line ≡ has_full_line (reverse r.bytes.items)

-- no prefix of these bytes ends a head, nor do they
abbrev pub IsUnended : List ℕ → Type 0
IsUnended bytes = has_head (reverse bytes) ≡ false

-- the bytes end a head, and no shorter prefix does
pub record IsEnded (bytes : List ℕ) : Type 0 where
  pub last : ℕ
  pub seen : List ℕ
  pub parts : reverse bytes ≡ last ∷ seen
  pub first : has_head seen ≡ false
  pub ends : ends_head (last ∷ seen) ≡ true

-- the reader took this byte, and this says whether it ends the head
abbrev pub TakesByte : Reader → Reader → ℕ → Bool → Type 0
TakesByte old new byte ends =
    (new.bytes.items ≡ old.bytes.items ++ byte ∷ []) × Tracks new × (ends ≡ ends_head (byte ∷ reverse old.bytes.items))
