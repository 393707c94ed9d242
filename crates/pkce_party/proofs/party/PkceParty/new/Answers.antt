use Rattle.std.proofs.Common.{ap, ◌∙◌}
use Rattle.rp_core.specs.Relying.{Relying}
use Rattle.pkce_party.proofs.Living.{begins}
use Rattle.pkce_party.proofs.party.PkceParty.new.Goals as goal

pub invariant_of-result : goal.invariant_of-result
invariant_of-result c =
    begins c.new-party.result c.new-verifiers.result.rows (ap (λ (r : Relying). r.history) c.new-party.ensures ∙ c.requires) c.new-verifiers.ensures
