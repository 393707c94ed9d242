use Rattle.std.proofs.Common.{◌∙◌}
use Rattle.op_core.specs.Providing.{past_of}
use Rattle.core_stack.proofs.Held.{code_in_both}
use Rattle.core_stack.proofs.op.OpCoreProvides.code.Goals as goal

pub returns : goal.returns
returns c =
    c.held_code.ensures.row
    ∙ code_in_both c.tables-tables.result.now (past_of c.args.self.now) c.args.at c.args.word c.requires c.tables-tables.ensures.agrees c.held_code.ensures.held
