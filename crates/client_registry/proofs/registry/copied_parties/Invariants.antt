use Rattle.std.proofs.Common.{◌≡◌, take}
use Rattle.client_registry.proofs.registry.copied_parties.Given as goal

-- the rows so far
abbrev pub invariant-loop-party : goal.invariant-loop-party
invariant-loop-party l = l.copied.items ≡ take l.party-index l.parties
