use Rattle.std.proofs.Common.{◌∙◌}
use Rattle.std.specs.Option.{option_copied}
use Rattle.op_core.proofs.LiveInBoth.{token_live, token_own}
use Rattle.op_core.proofs.state.OpCore.live_access_token.Goals as goal

pub returns-clause-row : goal.returns-clause-row
returns-clause-row c =
    c.live_token.ensures.row
    ∙ token_live c.self.inside.registry c.self.inside.journal.pairs c.self.inside.grants c.self.invariant.tables c.args.self.now c.self.view_is c.args.at c.requires c.args.word c.live_token.ensures.held

pub returns-clause-own : goal.returns-clause-own
returns-clause-own c =
    token_own c.self.inside.registry c.self.inside.journal.pairs c.self.inside.grants c.self.invariant.tables c.args.self.now c.self.view_is c.args.at c.requires c.args.word (option_copied c.live_token.result) c.live_token.ensures.row
