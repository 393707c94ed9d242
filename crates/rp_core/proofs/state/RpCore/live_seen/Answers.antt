use Rattle.std.proofs.Common.{◌∙◌}
use Rattle.rp_core.proofs.LiveInBoth.{seen_live}
use Rattle.rp_core.proofs.state.RpCore.live_seen.Goals as goal

pub returns : goal.returns
returns c =
    c.live_seen.ensures.row
    ∙ seen_live c.self.inside.setup c.self.inside.journal.pairs c.self.inside.logins c.self.invariant.tables c.args.self.now c.self.view_is c.args.at c.requires c.args.jti.now c.live_seen.ensures.held
