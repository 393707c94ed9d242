use Rattle.std.proofs.Common.{◌∙◌}
use Rattle.rp_answer.specs.Pendings.{live_pendings}
use Rattle.rp_core.specs.Relying.{past_of}
use Rattle.rp_core.proofs.LiveInBoth.{types_of}
use Rattle.rp_core.proofs.Answered.{room_for_other, room_for_same}
use Rattle.rp_core.proofs.state.RpCore.lacks_beside_live.Goals as goal

pub returns-then-ne : goal.returns-then-ne
returns-then-ne c =
    c.is_pending-named.ensures.row
    ∙ room_for_other c.args.answered c.args.word (live_pendings (types_of c.args.self.now) (past_of c.args.self.now) c.args.at) c.requires.there c.is_pending-named.ensures.few c.if-ne.ensures

pub returns-else-ne : goal.returns-else-ne
returns-else-ne c =
    c.if-ne.false
    ∙ room_for_same c.args.answered c.args.word (live_pendings (types_of c.args.self.now) (past_of c.args.self.now) c.args.at) c.requires.there c.is_pending-named.ensures.few c.if-ne.ensures
