use Rattle.std.proofs.Common.{length, sym, ap, ◌∙◌}
use Rattle.rp_core.specs.Relying.{Relying}
use Rattle.pkce_party.specs.Keeping.{pairs_of}
use Rattle.pkce_party.proofs.Pairing.{count_of_pairs}
use Rattle.pkce_party.proofs.step.PkcePartyCore.count.Goals as goal

pub returns-clause-count : goal.returns-clause-count
returns-clause-count c =
    c.count.ensures ∙ sym (count_of_pairs c.self.inside.party) ∙ ap (λ (r : Relying). length (pairs_of r)) c.self.view_is
