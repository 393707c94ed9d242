use Rattle.sso_places.proofs.FirstBroken.{none_broken, none_if_unbroken, forged_first, first_forged, leaked_first, first_leaked, clash_first, first_clashes}
use Rattle.sso_places.proofs.law.first_broken_is_exact.Goals as goal

pub returns-clause-none : goal.returns-clause-none
returns-clause-none c = λ s world. (none_broken s world, none_if_unbroken s world)

pub returns-clause-forged : goal.returns-clause-forged
returns-clause-forged c = λ s world number. (forged_first s world number, first_forged s world number)

pub returns-clause-leaked : goal.returns-clause-leaked
returns-clause-leaked c = λ s world number. (leaked_first s world number, first_leaked s world number)

pub returns-clause-clash : goal.returns-clause-clash
returns-clause-clash c = λ s world other number. (clash_first s world other number, first_clashes s world other number)
