use Rattle.std.proofs.Common.{◌∙◌}
use Rattle.rp_core.proofs.LiveInBoth.{meant_live}
use Rattle.rp_core.proofs.state.RpCore.count_meant.Goals as goal

pub returns : goal.returns
returns c =
    c.count_named.ensures
    ∙ meant_live c.self.inside.setup c.self.inside.journal.pairs c.self.inside.logins c.self.invariant.tables c.args.self.now c.self.view_is c.args.at c.requires c.args.claims.now _ _ c.bytes_if-sub.ensures c.bytes_if-sid.ensures
