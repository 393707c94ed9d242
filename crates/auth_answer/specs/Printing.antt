-- The location of an authorization response: the redirect URI with the response in its query or as its fragment (OpenID Connect
-- Core 1.0, 3.1.2.5, 3.1.2.6, 3.2.2.5, 3.2.2.6 and 3.3.2.5; RFC 6749, 4.1.2, 4.1.2.1, 4.2.2 and 4.2.2.1; OAuth 2.0 Multiple
-- Response Type Encoding Practices, 5).
use Rattle.std.specs.Prelude.{Bool, List, [], ◌∷◌, codes, filter_map, Option, Some, option_map, if◌then◌else◌}
use Rattle.sso_base.specs.Words.{Text, word_text}
use Rattle.oidc_words.specs.Lives.{access_life_text}
use Rattle.oidc_words.specs.TokenTypes.{bearer_word}
use Rattle.request_params.specs.Form.{Pair, form_text}
use Rattle.request_params.specs.Location.{query_mark, with_query, with_fragment}
use Rattle.oidc_words.specs.declared.errors.Refusal.{Refusal}
use Rattle.auth_answer.specs.declared.answer.Answer.{Answer}
use Rattle.oidc_words.specs.Errors.{error_text}

-- a parameter: a name, and a value if there is one
abbrev pub Param : Type 0
Param = Text × Option Text

abbrev pub pair_if : Param → Option Pair
pair_if param = option_map (λ value. (param.0, value)) param.1

-- the parameters that have a value, as pairs
abbrev pub pairs_of : List Param → List Pair
pairs_of params = filter_map pair_if params

-- the parameters of a successful response with these texts, in order; an access token comes with the type `Bearer` and its life
abbrev pub params_of : Option Text → Option Text → Option Text → Option Text → List Param
params_of code access id state =
    (codes "code", code)
    ∷ (codes "access_token", access)
    ∷ (codes "token_type", option_map (λ _. bearer_word) access)
    ∷ (codes "expires_in", option_map (λ _. access_life_text) access)
    ∷ (codes "id_token", id)
    ∷ (codes "state", state) ∷ []

-- the parameters of a successful response
abbrev pub answer_params : Answer → List Param
answer_params answer = params_of (option_map word_text answer.code) (option_map word_text answer.access) answer.id answer.state

-- the parameters of an error response
abbrev pub refusal_params : Refusal → List Param
refusal_params refusal = (codes "error", Some (error_text refusal.code)) ∷ (codes "state", refusal.state) ∷ []

-- the form of a successful response
abbrev pub answer_form : Answer → Text
answer_form answer = form_text (pairs_of (answer_params answer))

-- the form of an error response
abbrev pub refusal_form : Refusal → Text
refusal_form refusal = form_text (pairs_of (refusal_params refusal))

-- the URL with these pairs as its fragment, or in its query
abbrev pub located : Text → Bool → List Pair → Text
located url fragment pairs = if fragment then with_fragment url pairs else with_query url pairs

-- the location of a successful response
unfoldable pub answer_location : Answer → Text
answer_location answer = located answer.redirect answer.fragment (pairs_of (answer_params answer))

-- the location of an error response
unfoldable pub refusal_location : Refusal → Text
refusal_location refusal = located refusal.redirect refusal.fragment (pairs_of (refusal_params refusal))

-- the mark between the redirect URI and the form: `#`, or `?`, or `&` if the URI already has a query
abbrev pub answer_mark : Text → Bool → Text
answer_mark url fragment = if fragment then codes "#" else query_mark url
