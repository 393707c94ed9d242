use Rattle.std.proofs.Common.{Bool, not, sym, ◌∙◌, ap}
use Rattle.sso_base.specs.Rows.{row_of}
use Rattle.held_rows.specs.Held.{most_rows}
use Rattle.rp_login.specs.Rows.{pending_name}
use Rattle.rp_answer.specs.Pendings.{live_pendings}
use Rattle.held_rows.proofs.Found.{found_one}
use Rattle.held_rows.proofs.Added.{full_without_room, full_if_named}
use Rattle.rp_core.specs.Relying.{past_of}
use Rattle.rp_core.proofs.LiveInBoth.{types_of, pendings_room, pending_named}
use Rattle.rp_core.proofs.state.RpCore.lacks_pending.Goals as goal

pub returns-then-not-room : goal.returns-then-not-room
returns-then-not-room c =
    let N : Bool → Bool = λ b. not b in
    ap N (c.room.ensures.room ∙ sym c.if-not-room.ensures.room)
    ∙ full_without_room most_rows pending_name c.args.word (live_pendings (types_of c.args.self.now) (past_of c.args.self.now) c.args.at) (c.if-not-room.ensures.room ∙ pendings_room c.self.inside.setup c.self.inside.journal.pairs c.self.inside.logins c.self.invariant.tables c.args.self.now c.self.view_is c.args.at c.requires)

pub returns-else-not-room : goal.returns-else-not-room
returns-else-not-room c =
    c.is_some.ensures
    ∙ found_one c.any_live_pending.result (row_of pending_name c.args.word (live_pendings (types_of c.args.self.now) (past_of c.args.self.now) c.args.at)) (c.any_live_pending.ensures ∙ pending_named (types_of c.args.self.now) (past_of c.args.self.now) c.args.at c.args.word)
    ∙ full_if_named most_rows pending_name c.args.word (live_pendings (types_of c.args.self.now) (past_of c.args.self.now) c.args.at) (c.if-not-room.ensures.room ∙ pendings_room c.self.inside.setup c.self.inside.journal.pairs c.self.inside.logins c.self.invariant.tables c.args.self.now c.self.view_is c.args.at c.requires)
