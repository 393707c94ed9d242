-- The fields about a body: its transfer coding (RFC 9112, 6.1), its length (RFC 9110, 8.6) and its type (8.3).
use Rattle.std.specs.Prelude.{ℕ, nat_lt, not, Bool, true, false, List, [], ◌∷◌, codes, Option, Some, None, option_and_then, Result, Ok}
use Rattle.std.specs.List.{before_first}
use Rattle.std.specs.Str.{str_eq_ignore_ascii_case}
use Rattle.sso_base.specs.Refusals.{demand, forbid}
use Rattle.sso_base.specs.declared.http.Method.{Method}
use Rattle.sso_base.specs.declared.http.Method.TheVariants.{Post}
use Rattle.http_reply.specs.UserAgent.{is_semicolon}
use Rattle.sso_http.specs.Blanks.{trimmed}
use Rattle.sso_http.specs.Decimals.{decimal_of}
use Rattle.sso_http.specs.Fields.{Fields, values_of, first_of, only_of}
use Rattle.sso_http.specs.declared.no.HttpNo.{HttpNo}
use Rattle.sso_http.specs.declared.no.HttpNo.TheVariants.{NoLength, BodyTooLong}

abbrev pub is_empty : {A : Type 0} → List A → Bool
is_empty [] = true
is_empty (x ∷ xs) = false

abbrev pub has_transfer : Fields → Bool
has_transfer fields = not (is_empty (values_of (codes "transfer-encoding") fields))

-- the most bytes of a body (our own bound)
abbrev pub most_body : ℕ
most_body = 32768

-- the length in the single value
abbrev pub length_of : List (List ℕ) → Result ℕ HttpNo
length_of values =
    demand NoLength (option_and_then decimal_of (only_of values)) (λ n. forbid BodyTooLong (nat_lt most_body n) (Ok n))

-- only a POST has a body
abbrev pub body_length : Method → Fields → Result ℕ HttpNo
body_length Post fields = length_of (values_of (codes "content-length") fields)
body_length method fields = Ok 0

-- the media type of a form, with or without parameters, in any case of letters (RFC 9110, 8.3.1)
abbrev pub is_form_type : List ℕ → Bool
is_form_type value =
    str_eq_ignore_ascii_case (trimmed true (before_first is_semicolon value)) (codes "application/x-www-form-urlencoded")

abbrev pub is_form : Option (List ℕ) → Bool
is_form None = false
is_form (Some value) = is_form_type value

-- the body is a form; the first `Content-Type` field counts
abbrev pub has_form : Method → Fields → Bool
has_form Post fields = is_form (first_of (values_of (codes "content-type") fields))
has_form method fields = false
