-- The jars of browsers at one role, as a list of browsers with their jars, and at each party by its number.
use Rattle.std.specs.Prelude.{◌≡◌, ℕ, Bool, List, [], is_some, Option, Some, unwrap_or, slice_index_or, if◌then◌else◌, ◌==◌}
use Rattle.std.specs.Map.{lookup}
use Rattle.std.specs.Ordering.{is_eq, nat_cmp}
use Rattle.sso_places.specs.declared.types.Jar.{Jar}
use Rattle.sso_places.specs.Cookies.{no_jar}

abbrev pub found_in : List (ℕ × Jar) → ℕ → Option Jar
found_in jars browser = lookup (λ b. is_eq (nat_cmp browser b)) jars

-- the jar of a browser, empty if the list has none
abbrev pub jar_in : List (ℕ × Jar) → ℕ → Jar
jar_in jars browser = unwrap_or (found_in jars browser) no_jar

-- the jar of a browser after a thief's is replaced by a copy of the owner's
abbrev pub jar_after_theft : List (ℕ × Jar) → ℕ → ℕ → ℕ → Jar
jar_after_theft jars thief owner other = if other == thief then jar_in jars owner else jar_in jars other

-- the list has a jar for the browser
abbrev pub has_jar : List (ℕ × Jar) → ℕ → Bool
has_jar jars browser = is_some (found_in jars browser)

-- the browser has this jar, and those of others are unchanged
abbrev pub IsPut : List (ℕ × Jar) → List (ℕ × Jar) → ℕ → Jar → Type 0
IsPut before after browser jar = (other : ℕ) → found_in after other ≡ (if is_eq (nat_cmp browser other) then Some jar else found_in before other)

-- the list of the party with this number
abbrev pub jars_at : List (List (ℕ × Jar)) → ℕ → List (ℕ × Jar)
jars_at parties n = slice_index_or parties n []
