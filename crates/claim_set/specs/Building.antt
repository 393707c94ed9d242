-- Claim sets that are built by setting names, and their parts.
use Rattle.std.specs.Prelude.{◌≡◌, ℕ, List, [], ◌∷◌, Bool, true, not, ◌&&◌, Option, Some, None, option_map, if◌then◌else◌}
use Rattle.std.specs.Option.{option_or}
use Rattle.std.specs.Str.{bytes_eq}
use Rattle.serde_json.specs.Data.{Data, string, number, unsigned, array, Members, put}
use Rattle.serde_json.specs.Find.{get_member}
use Rattle.claim_set.specs.Claims.{without, text_items}

-- a natural number
abbrev pub number_value : ℕ → Data
number_value n = number (unsigned n)

-- an audience: one text is a string, none or several are an array (RFC 7519, 4.1.3)
abbrev pub audience : List (List ℕ) → Data
audience [] = array (text_items [])
audience (a ∷ []) = string a
audience (a ∷ b ∷ rest) = array (text_items (a ∷ b ∷ rest))

-- a name, and its value if there is one
abbrev pub Entry : Type 0
Entry = List ℕ × Option Data

-- a name, and a text as its value if there is one
abbrev pub text_entry : List ℕ → Option (List ℕ) → Entry
text_entry name o = (name, option_map string o)

abbrev pub put_if : List ℕ → Option Data → Members → Members
put_if k None ms = ms
put_if k (Some d) ms = put k d ms

-- the names set one after another
abbrev pub put_all : List Entry → Members → Members
put_all [] ms = ms
put_all (e ∷ es) ms = put_all es (put_if e.0 e.1 ms)

abbrev pub without_all : List (List ℕ) → Members → Members
without_all [] ms = ms
without_all (k ∷ ks) ms = without k (without_all ks ms)

-- none of the names is present
abbrev pub HasNone : List (List ℕ) → Members → Type 0
HasNone [] ms = Unit {0}
HasNone (k ∷ ks) ms = (get_member k ms ≡ None) × HasNone ks ms

-- the value of a name after the entries, if it was o before
abbrev pub found : List ℕ → List Entry → Option Data → Option Data
found q [] o = o
found q (e ∷ es) o = found q es (if bytes_eq q e.0 then option_or e.1 o else o)

abbrev pub names : List Entry → List (List ℕ)
names [] = []
names (e ∷ es) = e.0 ∷ names es

-- no entry has the name; no name occurs twice
abbrev pub is_apart : List ℕ → List Entry → Bool
is_apart k [] = true
is_apart k (e ∷ es) = not (bytes_eq e.0 k) && is_apart k es

abbrev pub is_distinct : List Entry → Bool
is_distinct [] = true
is_distinct (e ∷ es) = is_apart e.0 es && is_distinct es
