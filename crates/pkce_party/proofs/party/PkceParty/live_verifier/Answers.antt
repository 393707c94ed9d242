use Rattle.std.proofs.Common.{◌∙◌}
use Rattle.pkce_party.proofs.Living.{verifier_live}
use Rattle.pkce_party.proofs.party.PkceParty.live_verifier.Goals as goal

pub returns : goal.returns
returns c =
    c.living.ensures.row
    ∙ verifier_live c.self.inside.party c.self.inside.verifiers.rows c.self.invariant.verifiers c.args.self.now c.self.view_is c.args.at c.requires c.args.state
    c.in-Some.state c.in-Some.is c.living.ensures.held
