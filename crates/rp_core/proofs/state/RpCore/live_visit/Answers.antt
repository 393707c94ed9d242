use Rattle.std.proofs.Common.{◌∙◌}
use Rattle.rp_core.proofs.LiveInBoth.{visit_live}
use Rattle.rp_core.proofs.state.RpCore.live_visit.Goals as goal

pub returns : goal.returns
returns c =
    c.live_session.ensures.row
    ∙ visit_live c.self.inside.setup c.self.inside.journal.pairs c.self.inside.logins c.self.invariant.tables c.args.self.now c.self.view_is c.args.at c.requires c.args.session c.in-Some.session c.in-Some.is c.live_session.ensures.held
