-- A request object's parameters and those outside it (OpenID Connect Core 1.0, 6.1). Those of the object take precedence. But
-- the request outside must be an OAuth 2.0 request of the same client and response type, and an OpenID Connect request.
use Rattle.std.specs.Prelude.{◌≡◌, ◌⊎◌, IsTrue, Bool, true, false, not, List, [], ◌∷◌, codes, Option, Some, None, Result, Ok}
use Rattle.std.specs.Option.{option_or}
use Rattle.std.specs.Str.{bytes_eq}
use Rattle.sso_base.specs.Words.{Text}
use Rattle.sso_base.specs.Refusals.{first_refusal, and_then}
use Rattle.oidc_words.specs.Words.{has_word}
use Rattle.oidc_words.specs.Scopes.{openid_word}
use Rattle.request_params.specs.declared.params.Params.{Params}
use Rattle.request_params.specs.declared.name.ParamName.{ParamName}
use Rattle.request_params.specs.declared.name.ParamName.TheVariants.{ResponseType, ClientId}
use Rattle.request_params.specs.declared.no.AskNo.{AskNo}
use Rattle.request_params.specs.declared.no.AskNo.TheVariants.{Twice, Differs, OuterScope, NoMemory}
use Rattle.request_params.specs.Names.{name_text, param_of, params_by}

-- the text is present and has the word
abbrev pub states_word : Text → Option Text → Bool
states_word word None = false
states_word word (Some text) = has_word word text

-- the value outside the request object is absent, or differs from the value in it
abbrev pub differ : Option Text → Option Text → Bool
differ None inner = true
differ (Some text) None = false
differ (Some text) (Some inner) = not (bytes_eq text inner)

abbrev pub differs : ParamName → Params → Params → Bool × AskNo
differs name outer inner = (differ (param_of name outer) (param_of name inner), Differs (name_text name))

-- the errors, in order
abbrev pub merge_refusals : Params → Params → List (Bool × AskNo)
merge_refusals outer inner =
    differs ClientId outer inner
    ∷ differs ResponseType outer inner
    ∷ (not (states_word openid_word outer.scope), OuterScope) ∷ []

-- each parameter of the request object, and the others from outside it
abbrev pub merged : Params → Params → Params
merged outer inner = params_by (λ name. option_or (param_of name inner) (param_of name outer))

-- the whole request, or its error
unfoldable pub request_merged : Params → Params → Result Params AskNo
request_merged outer inner = and_then (first_refusal (merge_refusals outer inner)) (λ _. Ok (merged outer inner))

-- ---- the same, stated literally

-- the parameter is present outside the request object, and in it either absent or the same
pub record Agrees (name : ParamName) (outer inner : Params) : Type 0 where
  pub value : Text
  pub beside : param_of name outer ≡ Some value
  pub inside : (other : Text) → param_of name inner ≡ Some other → other ≡ value

-- the scope is present and has the word `openid`
pub record IsOpenid (params : Params) : Type 0 where
  pub words : Text
  pub there : params.scope ≡ Some words
  pub openid : IsTrue (has_word openid_word words)

-- the parameters of a request whose request object has the parameters `inner` and that has the parameters `outer` outside it
pub record IsMerged (outer inner params : Params) : Type 0 where
  pub client : Agrees ClientId outer inner
  pub response_type : Agrees ResponseType outer inner
  pub openid : IsOpenid outer
  pub from_object : (name : ParamName) (value : Text) → param_of name inner ≡ Some value → param_of name params ≡ Some value
  pub from_beside : (name : ParamName) → param_of name inner ≡ None → param_of name params ≡ param_of name outer

-- the causes of each error of merging
abbrev pub RefusesMerge : Params → Params → AskNo → Type 0
RefusesMerge outer inner (Twice name) = ⊥
RefusesMerge outer inner (Differs name) =
    ((name ≡ codes "client_id") × ¬ Agrees ClientId outer inner)
    ⊎ ((name ≡ codes "response_type") × Agrees ClientId outer inner × ¬ Agrees ResponseType outer inner)
RefusesMerge outer inner OuterScope = Agrees ClientId outer inner × Agrees ResponseType outer inner × ¬ IsOpenid outer
RefusesMerge outer inner NoMemory = ⊥
