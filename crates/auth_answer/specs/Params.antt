-- Parameters as the code represents them.
use Rattle.std.specs.Prelude.{ℕ, List, Option, option_map}
use Rattle.std.specs.Borrow.{Bor}
use Rattle.auth_answer.specs.Printing.{Param}

-- the referents of a name and of an optional value
abbrev pub param_text : Bor (List ℕ) × Option (Bor (List ℕ)) → Param
param_text param = (param.0.now, option_map (λ t. t.now) param.1)
