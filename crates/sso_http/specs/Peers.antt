-- The answer of a peer: a response head and its body (RFC 9112, 4 to 6).
use Rattle.std.specs.Prelude.{◌≡◌, ◌≤◌, ℕ, Bool, true, false, not, ◌&&◌, nat_le, List, [], ◌∷◌, length, map, take, codes, if◌then◌else◌}
use Rattle.std.specs.Prelude.{Option, Some, None, is_some, option_map, option_and_then}
use Rattle.httparse.specs.Grammar.{ResponseHead, ReadsResponse, status_code}
use Rattle.httparse.specs.Spans.{name_and_value}
use Rattle.sso_base.specs.declared.message.Answered.{Answered}
use Rattle.sso_http.specs.Bodies.{is_empty, has_transfer}
use Rattle.sso_http.specs.Decimals.{short_decimal}
use Rattle.sso_http.specs.Fields.{Fields, values_of}
use Rattle.sso_http.specs.Judging.{most_fields}

-- the first `n` of the bytes, if there are that many
abbrev pub front_of : List ℕ → ℕ → Option (List ℕ)
front_of rest n = if nat_le n (length rest) then Some (take n rest) else None

-- all bytes after the head, or the first `Content-Length` of them
abbrev pub cut_body : List (List ℕ) → List ℕ → Option (List ℕ)
cut_body [] rest = Some rest
cut_body (value ∷ []) rest = option_and_then (front_of rest) (short_decimal value)
cut_body (value ∷ other ∷ values) rest = None

unfoldable pub peer_body : Fields → List ℕ → Option (List ℕ)
peer_body fields rest = if has_transfer fields then None else cut_body (values_of (codes "content-length") fields) rest

abbrev pub with_status : ℕ → List ℕ → Answered
with_status status body = record { status = status; body = body }

-- the answer, from the head and the bytes after it
abbrev pub answered : ResponseHead → List ℕ → Option Answered
answered h rest = option_map (with_status (status_code h)) (peer_body (map name_and_value h.fields) rest)

-- the bytes are this head followed by this rest
abbrev pub IsResponse : List ℕ → ResponseHead → List ℕ → Type 0
IsResponse bytes h rest = ReadsResponse bytes h rest × (length h.fields ≤ most_fields)

-- the bytes are this answer
pub record IsAnswer (bytes : List ℕ) (a : Answered) : Type 0 where
  pub head : ResponseHead
  pub rest : List ℕ
  pub reads : IsResponse bytes head rest
  pub told : answered head rest ≡ Some a

-- the bytes are not an answer
abbrev pub IsNoAnswer : List ℕ → Type 0
IsNoAnswer bytes = (a : Answered) → ¬ (IsAnswer bytes a)

-- the parts of a response head, and the bytes after it
pub record IsResponseParts (bytes : List ℕ) (status : ℕ) (fields : Fields) (rest : List ℕ) : Type 0 where
  pub head : ResponseHead
  pub reads : IsResponse bytes head rest
  pub status_is : status ≡ status_code head
  pub fields_are : fields ≡ map name_and_value head.fields

-- ---- answers that are whole by their length

-- as many bytes are there as the one `Content-Length` says
abbrev pub has_length : List (List ℕ) → List ℕ → Bool
has_length values rest = not (is_empty values) && is_some (cut_body values rest)

unfoldable pub is_whole_body : Fields → List ℕ → Bool
is_whole_body fields rest = if has_transfer fields then false else has_length (values_of (codes "content-length") fields) rest

-- the bytes are an answer, and no byte is missing, whether more follow or not
pub record IsWhole (bytes : List ℕ) : Type 0 where
  pub head : ResponseHead
  pub rest : List ℕ
  pub reads : IsResponse bytes head rest
  pub whole : is_whole_body (map name_and_value head.fields) rest ≡ true
