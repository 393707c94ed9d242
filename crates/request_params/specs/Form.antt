-- Pairs of texts as a form, read and written (the URL Standard, 5.1 and 5.2), and the form of a request.
use Rattle.std.specs.Prelude.{ℕ, List, [], map, Option, unwrap_or}
use Rattle.std.specs.Str.Lossy.{utf8_lossy}
use Rattle.form_urlencoded.specs.Form.{raw_pairs, decode, extend_pairs}
use Rattle.sso_base.specs.Words.{Text}
use Rattle.sso_base.specs.declared.http.Method.{Method}
use Rattle.sso_base.specs.declared.http.Method.TheVariants.{Post}
use Rattle.sso_base.specs.declared.http.Ask.{Ask}

-- a name and its value
abbrev pub Pair : Type 0
Pair = Text × Text

-- the text that a name or a value of a form encodes; invalid UTF-8 becomes U+FFFD
abbrev pub text_of : List ℕ → Text
text_of bytes = utf8_lossy (decode bytes)

abbrev pub pair_of : List ℕ × List ℕ → Pair
pair_of pair = (text_of pair.0, text_of pair.1)

-- the pairs of a form, in order
unfoldable pub form_pairs : List ℕ → List Pair
form_pairs form = map pair_of (raw_pairs form)

-- the form that encodes the pairs
unfoldable pub form_text : List Pair → Text
form_text pairs = extend_pairs [] pairs

-- the form that was posted; empty if there is none
abbrev pub posted : Option (List ℕ) → List ℕ
posted body = unwrap_or body []

-- the form of a request: the body of a POST, otherwise the query (OpenID Connect Core 1.0, 3.1.2.1)
abbrev pub form_of : Method → Ask → List ℕ
form_of Post request = posted request.body
form_of method request = request.query
