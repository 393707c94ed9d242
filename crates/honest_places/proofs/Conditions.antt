-- If no condition is left out, each has its full meaning.
use Rattle.std.proofs.Common.{◌≡◌, Some, None}
use Rattle.honest_places.specs.Conditions.{Condition, Unless}

none_left_out : (condition : Condition) → None ≡ Some condition → ⊥
none_left_out condition is = cc

pub demanded : (condition : Condition) (Demand : Type 0) → Unless None condition Demand → Demand
demanded condition Demand unless = unless (none_left_out condition)
