-- The names in a URL's query, parsed as a form (the URL Standard, 5.1).
use Rattle.std.specs.Prelude.{ℕ, List, [], map, Option, Some, None}
use Rattle.std.specs.Str.Lossy.{utf8_lossy}
use Rattle.form_urlencoded.specs.Form.{raw_pairs, decode}
use Rattle.registered_url.specs.declared.web_url.WebUrl.{WebUrl}

-- the name of a pair
abbrev pub pair_name : List ℕ × List ℕ → List ℕ
pair_name pair = utf8_lossy (decode pair.0)

-- the names of a form, in order
abbrev pub form_names : List ℕ → List (List ℕ)
form_names form = map pair_name (raw_pairs form)

abbrev pub names_in : Option (List ℕ) → List (List ℕ)
names_in None = []
names_in (Some query) = form_names query

-- the names in a URL's query
abbrev pub query_names : WebUrl → List (List ℕ)
query_names url = names_in url.query
