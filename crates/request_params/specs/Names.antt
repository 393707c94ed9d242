-- The parameters of an authorization request, by their names (OpenID Connect Core 1.0, 3.1.2.1, 5.5, 6 and 7.2.1; OAuth 2.0
-- Multiple Response Type Encoding Practices, 2.1).
use Rattle.std.specs.Prelude.{List, [], ◌∷◌, codes, Option, None, IfSome, if◌then◌else◌}
use Rattle.std.specs.List.{find}
use Rattle.std.specs.Str.{IsUtf8, bytes_eq}
use Rattle.sso_base.specs.Words.{Text}
use Rattle.request_params.specs.declared.params.Params.{Params}
use Rattle.request_params.specs.declared.name.ParamName.{ParamName}
use Rattle.request_params.specs.declared.name.ParamName.TheVariants.{ResponseType, ClientId, RedirectUri, Scope, State, Nonce, ResponseMode, Prompt, MaxAge}
use Rattle.request_params.specs.declared.name.ParamName.TheVariants.{Claims, Request, RequestUri, Registration}

-- the text of a name
abbrev pub name_text : ParamName → Text
name_text ResponseType = codes "response_type"
name_text ClientId = codes "client_id"
name_text RedirectUri = codes "redirect_uri"
name_text Scope = codes "scope"
name_text State = codes "state"
name_text Nonce = codes "nonce"
name_text ResponseMode = codes "response_mode"
name_text Prompt = codes "prompt"
name_text MaxAge = codes "max_age"
name_text Claims = codes "claims"
name_text Request = codes "request"
name_text RequestUri = codes "request_uri"
name_text Registration = codes "registration"

abbrev pub all_names : List ParamName
all_names =
    ResponseType ∷ ClientId ∷ RedirectUri ∷ Scope ∷ State ∷ Nonce ∷ ResponseMode ∷ Prompt ∷ MaxAge ∷ Claims ∷ Request ∷ RequestUri
    ∷ Registration ∷ []

-- the name with this text
abbrev pub name_of : Text → Option ParamName
name_of t = find (λ name. bytes_eq (name_text name) t) all_names

-- the parameter of a name, if it is present
abbrev pub param_of : ParamName → Params → Option Text
param_of ResponseType params = params.response_type
param_of ClientId params = params.client_id
param_of RedirectUri params = params.redirect_uri
param_of Scope params = params.scope
param_of State params = params.state
param_of Nonce params = params.nonce
param_of ResponseMode params = params.response_mode
param_of Prompt params = params.prompt
param_of MaxAge params = params.max_age
param_of Claims params = params.claims
param_of Request params = params.request
param_of RequestUri params = params.request_uri
param_of Registration params = params.registration

-- the parameters that f gives, name by name
abbrev pub params_by : (ParamName → Option Text) → Params
params_by f = record {
  response_type = f ResponseType;
  client_id = f ClientId;
  redirect_uri = f RedirectUri;
  scope = f Scope;
  state = f State;
  nonce = f Nonce;
  response_mode = f ResponseMode;
  prompt = f Prompt;
  max_age = f MaxAge;
  claims = f Claims;
  request = f Request;
  request_uri = f RequestUri;
  registration = f Registration;
}

-- no parameter is present
abbrev pub no_params : Params
no_params = params_by (λ _. None)

-- the parameters after the one with this name is replaced
abbrev pub with_param : ParamName → Option Text → Params → Params
with_param name value params = params_by (λ other. if bytes_eq (name_text name) (name_text other) then value else param_of other params)

-- the parameters that are present are in UTF-8
abbrev pub AreTexts : Params → Type 0
AreTexts params = (name : ParamName) → IfSome (param_of name params) IsUtf8
