use Rattle.std.proofs.Common.{Bool, not, sym, ◌∙◌, ap}
use Rattle.sso_base.specs.Rows.{row_of}
use Rattle.code_grant.specs.Rows.{access_name}
use Rattle.op_core.specs.Providing.{past_of}
use Rattle.op_answer.specs.AccessTokens.{live_accesses}
use Rattle.op_tables.proofs.NamedRows.{token_named}
use Rattle.op_core.proofs.LiveInBoth.{tokens_room}
use Rattle.held_rows.specs.Held.{most_rows}
use Rattle.held_rows.proofs.Added.{full_without_room, full_if_named}
use Rattle.held_rows.proofs.Found.{found_one}
use Rattle.op_core.proofs.state.OpCore.lacks_access.Goals as goal

pub returns-then-not-room : goal.returns-then-not-room
returns-then-not-room c =
    let N : Bool → Bool = λ b. not b in
    ap N (c.room.ensures.room ∙ sym c.if-not-room.ensures.room)
    ∙ full_without_room most_rows access_name c.args.word (live_accesses (past_of c.args.self.now) c.args.at) (c.if-not-room.ensures.room ∙ tokens_room c.self.inside.registry c.self.inside.journal.pairs c.self.inside.grants c.self.invariant.tables c.args.self.now c.self.view_is c.args.at c.requires)

pub returns-else-not-room : goal.returns-else-not-room
returns-else-not-room c =
    c.is_some.ensures
    ∙ found_one c.live_access_token.result (row_of access_name c.args.word (live_accesses (past_of c.args.self.now) c.args.at)) (c.live_access_token.ensures.row ∙ token_named (past_of c.args.self.now) c.args.at c.args.word)
    ∙ full_if_named most_rows access_name c.args.word (live_accesses (past_of c.args.self.now) c.args.at) (c.if-not-room.ensures.room ∙ tokens_room c.self.inside.registry c.self.inside.journal.pairs c.self.inside.grants c.self.invariant.tables c.args.self.now c.self.view_is c.args.at c.requires)
