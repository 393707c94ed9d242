-- A result of checking a head that a definition determines, except for `NoMemory`, which may come at any call that takes
-- memory. The refusals before the head is checked are not among these results.
use Rattle.std.specs.Prelude.{◌≡◌, Result, Ok, Err}
use Rattle.sso_http.specs.declared.no.HttpNo.{HttpNo}
use Rattle.sso_http.specs.declared.no.HttpNo.TheVariants.{NoMemory, ReadFault, EndedEarly, HeadTooLong, BadHead}

abbrev pub IsToldRefusal : {X : Type 0} → HttpNo → Result X HttpNo → Type 0
IsToldRefusal NoMemory told = Unit {0}
IsToldRefusal ReadFault told = ⊥
IsToldRefusal EndedEarly told = ⊥
IsToldRefusal HeadTooLong told = ⊥
IsToldRefusal BadHead told = ⊥
IsToldRefusal e told = told ≡ Err e

abbrev pub IsTold : {X : Type 0} → Result X HttpNo → Result X HttpNo → Type 0
IsTold (Ok x) told = told ≡ Ok x
IsTold (Err e) told = IsToldRefusal e told
