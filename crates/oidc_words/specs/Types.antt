-- Response types (OpenID Connect Core 1.0, 3; OAuth 2.0 Multiple Response Type Encoding Practices, 3 and 5).
use Rattle.std.specs.Prelude.{ℕ, Bool, false, ◌||◌, ◌==◌, List, [], ◌∷◌, map, codes, Option, Some, None, is_some}
use Rattle.std.specs.List.{position_from}
use Rattle.sso_base.specs.Words.{Text}
use Rattle.oidc_words.specs.declared.response_types.Types.{Types}
use Rattle.sso_base.specs.Texts.{has_text}
use Rattle.oidc_words.specs.Words.{Choice, spaced}

-- ---- the words of a type

abbrev pub code_word : Text
code_word = codes "code"

abbrev pub id_token_word : Text
id_token_word = codes "id_token"

abbrev pub token_word : Text
token_word = codes "token"

abbrev pub type_choices : Types → List Choice
type_choices types = (types.code, code_word) ∷ (types.id_token, id_token_word) ∷ (types.token, token_word) ∷ []

-- the words of a type in the order `code`, `id_token`, `token`, separated by one space each
abbrev pub types_text : Types → Text
types_text types = spaced (type_choices types)

-- ---- the six

-- the type with this number, counted from 0 in the order `code`, `id_token`, `id_token token`, `code id_token`, `code token`,
-- `code id_token token`; `None`, and any number above five, gives no words
abbrev pub types_of_number : Option ℕ → Types
types_of_number None = record { code = false; id_token = false; token = false }
types_of_number (Some n) = record {
  code = n == 0 || n == 3 || n == 4 || n == 5;
  id_token = n == 1 || n == 2 || n == 3 || n == 5;
  token = n == 2 || n == 4 || n == 5;
}

-- the texts of the six, in order
abbrev pub response_types : List Text
response_types = map (λ n. types_text (types_of_number (Some n))) (0 ∷ 1 ∷ 2 ∷ 3 ∷ 4 ∷ 5 ∷ [])

-- the spellings of each of the six: the words may be in any order
unfoldable pub spellings : List (List Text)
spellings =
    (codes "code" ∷ [])
    ∷ (codes "id_token" ∷ [])
    ∷ (codes "id_token token" ∷ codes "token id_token" ∷ [])
    ∷ (codes "code id_token" ∷ codes "id_token code" ∷ [])
    ∷ (codes "code token" ∷ codes "token code" ∷ [])
    ∷ (codes "code id_token token" ∷ codes "code token id_token" ∷ codes "id_token code token" ∷ codes "id_token token code"
    ∷ codes "token code id_token" ∷ codes "token id_token code" ∷ [])
    ∷ []

-- the number of a response type among the six, counted from 0
abbrev pub type_number : Text → Option ℕ
type_number t = position_from (λ ts. has_text t ts) 0 spellings

abbrev pub is_response_type : Text → Bool
is_response_type t = is_some (type_number t)

-- ---- which part of the redirect URI carries the response

-- the response is in the fragment for every type except `code` (OAuth 2.0 Multiple Response Type Encoding Practices, 3 and 5)
abbrev pub is_in_fragment : Types → Bool
is_in_fragment types = types.id_token || types.token
