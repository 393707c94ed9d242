use Rattle.std.proofs.Common.{sym, ◌∙◌}
use Rattle.rp_answer.specs.Pendings.{live_pendings}
use Rattle.rp_core.specs.Relying.{past_of}
use Rattle.rp_core.proofs.LiveInBoth.{types_of}
use Rattle.rp_core.proofs.Answered.{all_beside}
use Rattle.rp_core.proofs.state.RpCore.lacks_pending_beside.Goals as goal

pub returns-else-is_pending : goal.returns-else-is_pending
returns-else-is_pending c =
    c.lacks_pending.ensures
    ∙ all_beside c.args.answered c.args.word (live_pendings (types_of c.args.self.now) (past_of c.args.self.now) c.args.at) (sym c.if-is_pending.ensures.row)
