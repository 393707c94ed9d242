use Rattle.std.proofs.Common.{◌∙◌}
use Rattle.std.specs.Option.{option_copied}
use Rattle.op_core.proofs.LiveInBoth.{session_live, session_own}
use Rattle.op_core.proofs.state.OpCore.live_session.Goals as goal

pub returns-clause-row : goal.returns-clause-row
returns-clause-row c =
    c.live_session.ensures.row
    ∙ session_live c.self.inside.registry c.self.inside.journal.pairs c.self.inside.grants c.self.invariant.tables c.args.self.now c.self.view_is c.args.at c.requires c.args.word c.in-Some.word c.in-Some.is c.live_session.ensures.held

pub returns-clause-own : goal.returns-clause-own
returns-clause-own c =
    session_own c.self.inside.registry c.self.inside.journal.pairs c.self.inside.grants c.self.invariant.tables c.args.self.now c.self.view_is c.args.at c.requires c.in-Some.word (option_copied c.live_session.result) c.live_session.ensures.row
