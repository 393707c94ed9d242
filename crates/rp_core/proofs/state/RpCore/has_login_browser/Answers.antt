use Rattle.std.proofs.Common.{◌∙◌}
use Rattle.rp_core.proofs.LiveInBoth.{browser_live}
use Rattle.rp_core.proofs.state.RpCore.has_login_browser.Goals as goal

pub returns : goal.returns
returns c = c.has_browser.ensures ∙ browser_live c.self.inside.setup c.self.inside.journal.pairs c.self.inside.logins c.self.invariant.tables c.args.self.now c.self.view_is c.args.at c.requires c.args.browser
