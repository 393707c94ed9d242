-- Setting parameters name by name.
use Rattle.std.specs.Prelude.{List, [], ◌∷◌, Option}
use Rattle.sso_base.specs.Words.{Text}
use Rattle.request_params.specs.declared.params.Params.{Params}
use Rattle.request_params.specs.declared.name.ParamName.{ParamName}
use Rattle.request_params.specs.Names.{with_param}

-- the parameters after those with these names are set to the results of f
abbrev pub with_all : (ParamName → Option Text) → List ParamName → Params → Params
with_all f [] params = params
with_all f (name ∷ names) params = with_all f names (with_param name (f name) params)
