use Rattle.std.proofs.Common.{◌∙◌}
use Rattle.rp_core.proofs.LiveInBoth.{login_live}
use Rattle.rp_core.proofs.state.RpCore.live_login.Goals as goal

pub returns : goal.returns
returns c =
    c.live_login.ensures.row
    ∙ login_live c.self.inside.setup c.self.inside.journal.pairs c.self.inside.logins c.self.invariant.tables c.args.self.now c.self.view_is c.args.at c.requires c.args.state c.in-Some.state c.in-Some.is c.live_login.ensures.held
