use Rattle.std.proofs.Common.{◌∙◌}
use Rattle.rp_core.proofs.LiveInBoth.{dead_live}
use Rattle.rp_core.proofs.state.RpCore.live_dead.Goals as goal

pub returns : goal.returns
returns c =
    c.live_dead.ensures.row
    ∙ dead_live c.self.inside.setup c.self.inside.journal.pairs c.self.inside.logins c.self.invariant.tables c.args.self.now c.self.view_is c.args.at c.requires c.args.sid.now c.live_dead.ensures.held
