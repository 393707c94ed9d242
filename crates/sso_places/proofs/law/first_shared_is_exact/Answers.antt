use Rattle.sso_places.proofs.Unshared.{none_shared, shared_none, first_is_shared, shared_is_first}
use Rattle.sso_places.proofs.law.first_shared_is_exact.Goals as goal

pub returns-clause-none : goal.returns-clause-none
returns-clause-none c = λ world. (none_shared world, shared_none world)

pub returns-clause-first : goal.returns-clause-first
returns-clause-first c = λ world number. (first_is_shared world number, shared_is_first world number)
