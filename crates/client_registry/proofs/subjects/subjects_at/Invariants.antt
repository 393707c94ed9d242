use Rattle.std.proofs.Common.{◌≡◌, take}
use Rattle.client_registry.specs.Rules as spec
use Rattle.client_registry.proofs.subjects.subjects_at.Given as goal

abbrev pub invariant-loop-user : goal.invariant-loop-user
invariant-loop-user l = l.subjects ≡ spec.subjects_at l.salt (take l.user-index l.users) l.client
