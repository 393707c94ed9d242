-- The text of a claim set: its claims, and why a text is rejected.
use Rattle.std.specs.Prelude.{◌≡◌, ℕ, List, true, false, Option, Some, None, Result, Ok, Err, if◌then◌else◌}
use Rattle.std.specs.Ordering.{nat_cmp}
use Rattle.std.specs.declared.cmp.Ordering.TheVariants.{Less}
use Rattle.std.specs.Cmp.Lexicographic.{slice_cmp}
use Rattle.std.specs.Str.{IsUtf8, is_utf8}
use Rattle.serde_json.specs.Data.{Data, object, Members, no_members, member}
use Rattle.serde_json.specs.Read.{read}
use Rattle.serde_json.specs.Find.{as_object, get_member}
use Rattle.serde_json.specs.Written.{has_float, compact_text}
use Rattle.claim_set.specs.declared.no.ClaimNo.{ClaimNo}
use Rattle.claim_set.specs.declared.no.ClaimNo.TheVariants.{NotJson, NotObject, WrongKind}

-- the text b contains the claims ms: it is the text, in UTF-8, of a JSON object whose numbers are integers (RFC 7519, 7.2)
pub record Reads (b : List ℕ) (ms : Members) : Type 0 where
  pub utf8 : IsUtf8 b
  pub is_object : read b ≡ Some (object ms)
  pub whole : has_float (object ms) ≡ false

-- the text that is written: compact, with the names in order
abbrev pub claims_text : Members → List ℕ
claims_text ms = compact_text (object ms)

-- k is the first name, in the order of the bytes, whose value contains a number that is not an integer
pub record IsFirstWrong (k : List ℕ) (ms : Members) : Type 0 where
  pub value : Data
  pub there : get_member k ms ≡ Some value
  pub wrong : has_float value ≡ true
  pub first : (q : List ℕ) (d : Data) → slice_cmp nat_cmp q k ≡ Less → get_member q ms ≡ Some d → has_float d ≡ false

-- ---- the errors, in order: the first that applies is returned

-- the first name, in the order of the names, whose value contains a number that is not an integer
abbrev pub first_float : Members → Option (List ℕ)
first_float no_members = None
first_float (member k d ms) = if has_float d then Some k else first_float ms

abbrev pub if_whole : Option (List ℕ) → Members → Result Members ClaimNo
if_whole None ms = Ok ms
if_whole (Some name) ms = Err (WrongKind name)

abbrev pub if_members : Option Members → Result Members ClaimNo
if_members None = Err NotObject
if_members (Some ms) = if_whole (first_float ms) ms

abbrev pub if_read : Option Data → Result Members ClaimNo
if_read None = Err NotJson
if_read (Some d) = if_members (as_object d)

-- the JSON value whose text these bytes are, in UTF-8
unfoldable pub json_in : List ℕ → Option Data
json_in b = if is_utf8 b then read b else None

-- the claims whose text these bytes are, or the first error that applies
abbrev pub claims_read : List ℕ → Result Members ClaimNo
claims_read b = if_read (json_in b)
