use Rattle.std.proofs.Common.{sym, ◌∙◌}
use Rattle.sso_base.specs.Rows.{row_of}
use Rattle.code_grant.specs.Rows.{session_name}
use Rattle.op_core.specs.Providing.{past_of}
use Rattle.op_answer.specs.Sessions.{live_sessions}
use Rattle.op_answer.specs.Room.{sessions_beside}
use Rattle.op_tables.proofs.NamedRows.{session_named}
use Rattle.held_rows.specs.Held.{most_rows}
use Rattle.held_rows.proofs.Added.{full_if_named}
use Rattle.held_rows.proofs.Found.{found_one}
use Rattle.op_core.proofs.RoomFor.{beside_named}
use Rattle.op_core.proofs.state.OpCore.lacks_session_word.Goals as goal

pub returns-else-not-has_session_room : goal.returns-else-not-has_session_room
returns-else-not-has_session_room c =
    c.is_some.ensures
    ∙ found_one c.live_session.result (row_of session_name c.args.word (sessions_beside c.args.presented c.args.word (live_sessions (past_of c.args.self.now) c.args.at)))
    (c.live_session.ensures.row ∙ session_named (past_of c.args.self.now) c.args.at c.args.word ∙ sym (beside_named c.args.presented c.args.word (live_sessions (past_of c.args.self.now) c.args.at)))
    ∙ full_if_named most_rows session_name c.args.word (sessions_beside c.args.presented c.args.word (live_sessions (past_of c.args.self.now) c.args.at)) c.if-not-has_session_room.ensures
