-- The cookies of a request (RFC 6265, 5.4): the pieces of all `Cookie` fields, cut at semicolons.
use Rattle.std.specs.Prelude.{ℕ, nat_lt, List, [], ◌∷◌, length, false, codes, Option, Some, None, Result, Ok, Err, if◌then◌else◌}
use Rattle.std.specs.List.{flat_map, filter_map, slice_split, before_first, after_first, position_or_len}
use Rattle.std.specs.Str.{bytes_eq}
use Rattle.sso_base.specs.Words.{Word, word_of_text}
use Rattle.http_reply.specs.UserAgent.{is_semicolon, is_equals}
use Rattle.sso_http.specs.Blanks.{trimmed}
use Rattle.sso_http.specs.Fields.{Fields, values_of}
use Rattle.sso_http.specs.declared.no.HttpNo.{HttpNo}
use Rattle.sso_http.specs.declared.no.HttpNo.TheVariants.{CookieTwice}

-- the name and the value of a piece, before and after its first equals sign; a piece without one is ignored
abbrev pub pair_of : List ℕ → Option (List ℕ × List ℕ)
pair_of piece =
    if nat_lt (position_or_len is_equals piece) (length piece)
    then Some (before_first is_equals piece, after_first is_equals piece)
    else None

abbrev pub pieces_of : List ℕ → List (List ℕ)
pieces_of value = slice_split is_semicolon value

abbrev pub if_named : List ℕ → Option (List ℕ × List ℕ) → Option (List ℕ)
if_named name None = None
if_named name (Some pair) = if bytes_eq pair.0 name then Some pair.1 else None

-- the value of a piece, without the spaces at its ends, if it has this name
abbrev pub value_in : List ℕ → List ℕ → Option (List ℕ)
value_in name piece = if_named name (pair_of (trimmed false piece))

-- the values with this name, in order
abbrev pub named_values : List ℕ → List (List ℕ) → List (List ℕ)
named_values name pieces = filter_map (value_in name) pieces

abbrev pub cookies_of : List ℕ → Fields → List (List ℕ)
cookies_of name fields = named_values name (flat_map pieces_of (values_of (codes "cookie") fields))

-- the word of the single value; a value that is not the text of a word counts as absent
abbrev pub word_of : List (List ℕ) → Result (Option Word) HttpNo
word_of [] = Ok None
word_of (value ∷ []) = Ok (word_of_text value)
word_of (value ∷ other ∷ values) = Err CookieTwice
