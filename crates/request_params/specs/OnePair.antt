-- Fields after one more pair of a form, and after several, in order: those of a request, and of any other record F whose fields
-- have names N. Its errors are E.
use Rattle.std.specs.Prelude.{List, [], ◌∷◌, length, nat_lt, Option, Some, None, is_some, Result, Ok, Err, if◌then◌else◌}
use Rattle.sso_base.specs.Words.{Text}
use Rattle.sso_base.specs.Refusals.{and_then}
use Rattle.request_params.specs.declared.params.Params.{Params}
use Rattle.request_params.specs.declared.no.AskNo.{AskNo}
use Rattle.request_params.specs.declared.no.AskNo.TheVariants.{Twice}
use Rattle.request_params.specs.Names.{name_of, param_of, with_param}
use Rattle.request_params.specs.Form.{Pair}

-- ---- any record

-- a pair whose name is that of a field, if it is the first one
abbrev pub with_first : {F N E : Type 0} → (N → F → Option Text) → (N → Option Text → F → F) → (Text → E) → Option N → F → Pair → Result F E
with_first field with_field twice None fields pair = Ok fields
with_first field with_field twice (Some name) fields pair =
    if is_some (field name fields) then Err (twice pair.0) else Ok (with_field name (Some pair.1) fields)

abbrev pub with_each : {F E : Type 0} → (F → Pair → Result F E) → F → List Pair → Result F E
with_each one fields [] = Ok fields
with_each one fields (pair ∷ pairs) = and_then (one fields pair) (λ more. with_each one more pairs)

-- ---- a request

abbrev pub with_pair : Params → Pair → Result Params AskNo
with_pair params pair = if nat_lt 0 (length pair.1) then with_first param_of with_param Twice (name_of pair.0) params pair else Ok params

abbrev pub with_pairs : Params → List Pair → Result Params AskNo
with_pairs params pairs = with_each with_pair params pairs
