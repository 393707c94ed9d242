use Rattle.std.proofs.Common.{◌≡◌, take}
use Rattle.client_registry.proofs.registry.copied_subjects.Given as goal

-- the rows so far
abbrev pub invariant-loop-row : goal.invariant-loop-row
invariant-loop-row l = l.copied.items ≡ take l.row-index l.subjects
