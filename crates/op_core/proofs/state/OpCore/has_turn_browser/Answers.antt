use Rattle.std.proofs.Common.{◌∙◌}
use Rattle.op_core.proofs.LiveInBoth.{browser_live}
use Rattle.op_core.proofs.state.OpCore.has_turn_browser.Goals as goal

pub returns : goal.returns
returns c = c.has_browser.ensures ∙ browser_live c.self.inside.registry c.self.inside.journal.pairs c.self.inside.grants c.self.invariant.tables c.args.self.now c.self.view_is c.args.at c.requires c.args.browser
