-- The results of servers that have ended.
use Rattle.std.specs.Prelude.{◌≡◌}
use Rattle.serving.specs.declared.summary.Summary.{Summary}
use Rattle.server_roles.specs.declared.ran.Ran.{Ran}

-- what is kept of a summary without the core
abbrev pub ran_of : {O A R : Type 0} → Summary O A R → Ran
ran_of s = record { fault = s.fault; served = s.served; entries = s.entries }

-- a server did this, with this result
abbrev pub RanSo : {O A R : Type 0} → (Summary O A R → Type 0) → Ran → Type 0
RanSo {O} {A} {R} served ran = (s : Summary O A R) × served s × (ran ≡ ran_of s)
