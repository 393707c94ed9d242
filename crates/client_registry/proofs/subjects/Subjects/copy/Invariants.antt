use Rattle.std.proofs.Common.{◌≡◌, take}
use Rattle.client_registry.proofs.subjects.Subjects.copy.Given as goal

-- the subjects so far
abbrev pub invariant-loop-text : goal.invariant-loop-text
invariant-loop-text l = l.copied ≡ take l.text-index l.text-items
