-- Values of a configuration, each of the requested kind.
use Rattle.std.specs.Prelude.{ℕ, ℤ, pos, negsuc, Bool, false, List, [], ◌∷◌, Option, Some, None, option_map, option_and_then, unwrap_or, Result, Ok, Err}
use Rattle.toml.specs.Data.{Data, Items, no_items, item, no_members, table, get, as_str, as_integer, as_bool, as_array}
use Rattle.hex.specs.Hex.{decode_of}
use Rattle.registered_url.specs.declared.web_url.WebUrl.{WebUrl}
use Rattle.registered_url.specs.Rule.{url_of}
use Rattle.hex.specs.declared.error.FromHexError.{FromHexError}

-- a natural number
abbrev pub natural : ℤ → Option ℕ
natural (pos n) = Some n
natural (negsuc n) = None

abbrev pub as_natural : Data → Option ℕ
as_natural d = option_and_then natural (as_integer d)

abbrev pub bytes_found : Result (List ℕ) FromHexError → Option (List ℕ)
bytes_found (Ok bytes) = Some bytes
bytes_found (Err e) = None

-- the bytes of a text of hexadecimal digits, two for each byte
abbrev pub hex_bytes : List ℕ → Option (List ℕ)
hex_bytes t = bytes_found (decode_of t)

-- the texts of an array that contains only texts
abbrev pub items_texts : Items → Option (List (List ℕ))
items_texts no_items = Some []
items_texts (item d ds) = option_and_then (λ t. option_map (λ ts. t ∷ ts) (items_texts ds)) (as_str d)

abbrev pub as_texts : Data → Option (List (List ℕ))
as_texts d = option_and_then items_texts (as_array d)

-- ---- values at keys

-- the text at a key
abbrev pub text_at : List ℕ → Data → Option (List ℕ)
text_at key d = option_and_then as_str (get key d)

-- the same, or this default
abbrev pub text_or : List ℕ → List ℕ → Data → List ℕ
text_or key other d = unwrap_or (text_at key d) other

abbrev pub natural_at : List ℕ → Data → Option ℕ
natural_at key d = option_and_then as_natural (get key d)

-- the flag at a key; false if there is none
abbrev pub flag_at : List ℕ → Data → Bool
flag_at key d = unwrap_or (option_and_then as_bool (get key d)) false

-- the bytes of the hexadecimal text at a key; empty if there is none
abbrev pub hex_at : List ℕ → Data → List ℕ
hex_at key d = unwrap_or (option_and_then hex_bytes (text_at key d)) []

-- the texts of the array at a key; empty if there is none
abbrev pub texts_at : List ℕ → Data → List (List ℕ)
texts_at key d = unwrap_or (option_and_then as_texts (get key d)) []

-- the URL at a key, if there is one that satisfies the rule for URLs
abbrev pub url_at : List ℕ → Data → Option WebUrl
url_at key d = option_and_then url_of (text_at key d)

abbrev pub items_list : Items → List Data
items_list no_items = []
items_list (item d ds) = d ∷ items_list ds

-- the rows of the array at a key; empty if there is none
abbrev pub rows_at : List ℕ → Data → List Data
rows_at key d = items_list (unwrap_or (option_and_then as_array (get key d)) no_items)

-- the value at a key; the empty table if there is none
abbrev pub table_at : List ℕ → Data → Data
table_at key d = unwrap_or (get key d) (table no_members)
