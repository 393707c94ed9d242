use Rattle.std.proofs.Common.{◌∙◌}
use Rattle.std.specs.Option.{option_copied}
use Rattle.op_core.proofs.LiveInBoth.{code_live, code_own}
use Rattle.op_core.proofs.state.OpCore.held_code.Goals as goal

pub returns-clause-row : goal.returns-clause-row
returns-clause-row c =
    c.held_code.ensures.row
    ∙ code_live c.self.inside.registry c.self.inside.journal.pairs c.self.inside.grants c.self.invariant.tables c.args.self.now c.self.view_is c.args.at c.requires c.args.word c.in-Some.word c.in-Some.is c.held_code.ensures.held

pub returns-clause-own : goal.returns-clause-own
returns-clause-own c =
    code_own c.self.inside.registry c.self.inside.journal.pairs c.self.inside.grants c.self.invariant.tables c.args.self.now c.self.view_is c.args.at c.requires c.in-Some.word (option_copied c.held_code.result) c.held_code.ensures.row
