use Rattle.std.proofs.Common.{◌≡◌, take}
use Rattle.end_request.proofs.returning.list_of.Given as goal

-- the texts so far
abbrev pub invariant-loop-text : goal.invariant-loop-text
invariant-loop-text l = l.list ≡ take l.text-index l.texts
