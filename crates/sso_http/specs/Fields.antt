-- The fields of a head (RFC 9110, 5). A field is its name and its value, without the blanks at the ends of the value.
use Rattle.std.specs.Prelude.{ℕ, List, [], ◌∷◌, Option, Some, None, if◌then◌else◌}
use Rattle.std.specs.Str.{str_eq_ignore_ascii_case}

abbrev pub Fields : Type 0
Fields = List (List ℕ × List ℕ)

-- the values of the fields with a name, up to the case of ASCII letters
abbrev pub values_of : List ℕ → Fields → List (List ℕ)
values_of name [] = []
values_of name (f ∷ fields) = if str_eq_ignore_ascii_case f.0 name then f.1 ∷ values_of name fields else values_of name fields

abbrev pub first_of : {A : Type 0} → List A → Option A
first_of [] = None
first_of (x ∷ xs) = Some x

-- the element, if there is exactly one
abbrev pub only_of : {A : Type 0} → List A → Option A
only_of [] = None
only_of (x ∷ []) = Some x
only_of (x ∷ y ∷ xs) = None
