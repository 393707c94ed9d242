-- The elements of a list that only contracts see, oldest first.
use Rattle.std.specs.Prelude.{List, [], ◌∷◌, ◌++◌}
use Rattle.sso_base.specs.declared.chain.Chain.{Chain, Nothing, Then'}

abbrev pub told_by : {E : Type 0} → Chain E → List E
told_by Nothing = []
told_by (Then' p before last) = told_by before ++ last.value ∷ []
