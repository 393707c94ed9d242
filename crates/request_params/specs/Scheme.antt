-- The scheme of an `Authorization` header, and the text after it (RFC 9110, 11.1 and 11.6.2).
use Rattle.std.specs.Prelude.{◌≡◌, ◌⊎◌, ℕ, ◌==◌, Bool, IsFalse, List, [], ◌∷◌, ◌++◌, codes, Option, Some, None, option_map, if◌then◌else◌}
use Rattle.std.specs.List.{list_any}
use Rattle.std.specs.Str.{bytes_eq, str_to_ascii_lowercase}

-- the parts before and after the first such byte, if there is one
abbrev pub split_once : ℕ → List ℕ → Option (List ℕ × List ℕ)
split_once mark [] = None
split_once mark (x ∷ t) = if x == mark then Some ([], t) else option_map (λ parts. (x ∷ parts.0, parts.1)) (split_once mark t)

abbrev pub first_part : List ℕ → Option (List ℕ × List ℕ) → List ℕ
first_part whole None = whole
first_part whole (Some parts) = parts.0

-- the scheme of a header: the text before its first space, or the whole header if there is none
abbrev pub scheme_of : List ℕ → List ℕ
scheme_of header = first_part header (split_once 32 header)

-- the scheme, or the type of a token, is `Bearer`, in any case (RFC 6750, 2.1 and 4)
abbrev pub is_bearer : List ℕ → Bool
is_bearer scheme = bytes_eq (str_to_ascii_lowercase scheme) (codes "bearer")

-- ---- the same, stated literally

abbrev pub has_byte : ℕ → List ℕ → Bool
has_byte mark t = list_any (λ x. x == mark) t

-- s is the text before the first space of the header, or the whole header if there is none
pub record IsScheme (s header : List ℕ) : Type 0 where
  pub no_space : IsFalse (has_byte 32 s)
  pub parts : (header ≡ s) ⊎ ((rest : List ℕ) × (header ≡ s ++ 32 ∷ rest))
