use Rattle.std.proofs.Common.{◌≡◌, ℕ, length, slice_get, Some}
use Rattle.rp_core.specs.Relying.{Relying}
use Rattle.running_world.specs.Parties.{IsNewParty}
use Rattle.running_world.proofs.roles.new_parties.Given as goal

abbrev pub invariant-loop-number : goal.invariant-loop-number
invariant-loop-number l =
    (length l.parties.items ≡ l.number) × ((n : ℕ) (role : Relying) → slice_get l.parties.items n ≡ Some role → IsNewParty l.registry n role)
