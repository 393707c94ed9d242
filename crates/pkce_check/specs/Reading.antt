-- Challenges and verifiers in forms (RFC 7636, 4.1 to 4.3 and 4.5). A parameter with an empty value counts as absent (RFC 6749, 3.1 and
-- 3.2).
use Rattle.std.specs.Prelude.{ℕ, Bool, ◌&&◌, ◌||◌, ◌==◌, nat_le, nat_lt, List, [], ◌∷◌, length, filter, codes, Option, Some, None, unwrap_or}
use Rattle.std.specs.Prelude.{if◌then◌else◌}
use Rattle.std.specs.List.{list_all}
use Rattle.std.specs.Str.{bytes_eq}
use Rattle.sso_base.specs.Words.{Text}
use Rattle.request_params.specs.Form.{Pair, form_pairs}
use Rattle.pkce_answer.specs.declared.asks.Challenge.{Challenge}
use Rattle.pkce_answer.specs.declared.asks.Challenge.TheVariants as challenge
use Rattle.pkce_answer.specs.declared.asks.Verifier.{Verifier}
use Rattle.pkce_answer.specs.declared.asks.Verifier.TheVariants as verifier

-- ---- parameters

abbrev pub has_name : Text → Pair → Bool
has_name name pair = bytes_eq pair.0 name && nat_lt 0 (length pair.1)

-- how often a parameter is there
abbrev pub count : Text → List Pair → ℕ
count name pairs = length (filter (has_name name) pairs)

abbrev pub value_of : Text → List Pair → Option Text
value_of name [] = None
value_of name (pair ∷ pairs) = if has_name name pair then Some pair.1 else value_of name pairs

-- the value of a parameter, empty if it is absent
abbrev pub value : Text → List Pair → Text
value name pairs = unwrap_or (value_of name pairs) (codes "")

-- ---- characters

-- `A-Z a-z 0-9`
abbrev pub is_alphanumeric : ℕ → Bool
is_alphanumeric b = (nat_le 48 b && nat_le b 57) || (nat_le 65 b && nat_le b 90) || (nat_le 97 b && nat_le b 122)

-- those and `-`, `_`
abbrev pub is_url_safe : ℕ → Bool
is_url_safe b = is_alphanumeric b || b == 45 || b == 95

-- those and `.`, `~`
abbrev pub is_unreserved : ℕ → Bool
is_unreserved b = is_url_safe b || b == 46 || b == 126

abbrev pub all_url_safe : List ℕ → Bool
all_url_safe text = list_all is_url_safe text

abbrev pub all_unreserved : List ℕ → Bool
all_unreserved text = list_all is_unreserved text

-- ---- the challenge of an authorization request

-- the spelling of a SHA-256 digest in base64url without padding has 43 characters
abbrev pub challenge_in : Text → Challenge
challenge_in text = if length text == 43 && all_url_safe text then challenge.S256 text else challenge.Bad

-- both parameters are there once, and the method is S256
abbrev pub has_s256 : List Pair → Bool
has_s256 pairs =
    count (codes "code_challenge") pairs == 1 && count (codes "code_challenge_method") pairs == 1
    && bytes_eq (value (codes "code_challenge_method") pairs) (codes "S256")

abbrev pub challenge_of_pairs : List Pair → Challenge
challenge_of_pairs pairs =
    if count (codes "code_challenge") pairs == 0 && count (codes "code_challenge_method") pairs == 0 then challenge.Absent
    else if has_s256 pairs then challenge_in (value (codes "code_challenge") pairs)
    else challenge.Bad

-- the challenge in a form
unfoldable pub challenge_read : List ℕ → Challenge
challenge_read form = challenge_of_pairs (form_pairs form)

-- ---- the verifier of a token request

abbrev pub is_verifier : Text → Bool
is_verifier text = nat_le 43 (length text) && nat_le (length text) 128 && all_unreserved text

abbrev pub verifier_of_pairs : List Pair → Verifier
verifier_of_pairs pairs =
    if count (codes "code_verifier") pairs == 0 then verifier.Absent
    else if count (codes "code_verifier") pairs == 1 && is_verifier (value (codes "code_verifier") pairs)
    then verifier.Given (value (codes "code_verifier") pairs)
    else verifier.Bad

-- the verifier in a form
unfoldable pub verifier_read : List ℕ → Verifier
verifier_read form = verifier_of_pairs (form_pairs form)
