-- The location of an authorization request (OpenID Connect Core 1.0, 3.1.2.1; RFC 6749, 4.1.1).
use Rattle.std.specs.Prelude.{◌≡◌, List, [], ◌∷◌, Option, Some, None, option_map}
use Rattle.std.specs.List.{filter_map}
use Rattle.sso_base.specs.Words.{Text}
use Rattle.request_params.specs.declared.params.Params.{Params}
use Rattle.request_params.specs.declared.name.ParamName.{ParamName}
use Rattle.request_params.specs.declared.name.ParamName.TheVariants.{ResponseType, ClientId, RedirectUri, Scope, State, Nonce, Prompt, MaxAge, Request}
use Rattle.request_params.specs.Names.{name_text, param_of, AreTexts}
use Rattle.request_params.specs.Form.{Pair, form_text}
use Rattle.request_params.specs.Location.{with_query}

-- the parameters that are written, in order
abbrev pub printed_names : List ParamName
printed_names = ResponseType ∷ ClientId ∷ RedirectUri ∷ Scope ∷ State ∷ Nonce ∷ Prompt ∷ MaxAge ∷ Request ∷ []

-- the parameter of a name, as a pair
abbrev pub pair_if : Params → ParamName → Option Pair
pair_if params name = option_map (λ value. (name_text name, value)) (param_of name params)

abbrev pub pairs_named : Params → List ParamName → List Pair
pairs_named params names = filter_map (pair_if params) names

-- the pairs that are written for a request: those of its parameters that are present
abbrev pub request_pairs : Params → List Pair
request_pairs params = pairs_named params printed_names

-- the form of a request
abbrev pub request_form : Params → Text
request_form params = form_text (request_pairs params)

-- the location of a request at an authorization endpoint
unfoldable pub request_location : Text → Params → Text
request_location endpoint params = with_query endpoint (request_pairs params)

-- a request that is written completely: its parameters are texts, none is empty, and those that are not written are absent
pub record IsPrinted (params : Params) : Type 0 where
  pub texts : AreTexts params
  pub filled : (name : ParamName) → ¬ (param_of name params ≡ Some [])
  pub no_response_mode : params.response_mode ≡ None
  pub no_claims : params.claims ≡ None
  pub no_request_uri : params.request_uri ≡ None
  pub no_registration : params.registration ≡ None
