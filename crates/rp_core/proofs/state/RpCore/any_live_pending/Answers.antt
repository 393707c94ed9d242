use Rattle.std.proofs.Common.{◌∙◌}
use Rattle.rp_core.proofs.LiveInBoth.{pending_live}
use Rattle.rp_core.proofs.state.RpCore.any_live_pending.Goals as goal

pub returns : goal.returns
returns c =
    c.live_pending.ensures.row
    ∙ pending_live c.self.inside.setup c.self.inside.journal.pairs c.self.inside.logins c.self.invariant.tables c.args.self.now c.self.view_is c.args.at c.requires c.args.word c.live_pending.ensures.held
