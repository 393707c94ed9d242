-- Laws about the parameters of an authorization request. Each is a clause of a function of `law.rt`, which says it in words.
use Rattle.std.specs.Prelude.{◌≡◌, Option, Ok, Some}
use Rattle.sso_base.specs.Words.{Text}
use Rattle.request_params.specs.declared.name.ParamName.{ParamName}
use Rattle.request_params.specs.declared.params.Params.{Params}
use Rattle.request_params.specs.Names.{param_of, with_param}
use Rattle.request_params.specs.Merging.{request_merged}
use Rattle.request_params.specs.Signed.{outer_params, inner_params, IsSignable}

-- ---- parameters

abbrev pub OtherParametersAreKept : Type 0
OtherParametersAreKept =
    (name other : ParamName) (value : Option Text) (params : Params) → ¬ (name ≡ other)
    → param_of other (with_param name value params) ≡ param_of other params

-- ---- signed requests

abbrev pub SignedParametersAreWhole : Type 0
SignedParametersAreWhole =
    (params : Params) (object : Text) → IsSignable params
    → request_merged (outer_params params object) (inner_params params) ≡ Ok (record params { request = Some object })
