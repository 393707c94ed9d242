use Rattle.std.proofs.Common.{refl, ◌∙◌}
use Rattle.sso_base.specs.Rows.{row_of}
use Rattle.code_grant.specs.Rows.{session_name}
use Rattle.op_core.specs.Providing.{past_of}
use Rattle.op_answer.specs.Sessions.{live_sessions}
use Rattle.op_tables.proofs.NamedRows.{session_named, sessions_distinct}
use Rattle.op_core.proofs.LiveInBoth.{sessions_room, sessions_full}
use Rattle.held_rows.proofs.Found.{found_one}
use Rattle.op_core.proofs.RoomFor.{beside_room, beside_if_other, beside_if_same, beside_if_none}
use Rattle.op_core.proofs.state.OpCore.has_session_room.Goals as goal

pub returns-then-room : goal.returns-then-room
returns-then-room c = beside_room c.args.presented c.args.word (live_sessions (past_of c.args.self.now) c.args.at) (c.if-room.ensures.room ∙ sessions_room c.self.inside.registry c.self.inside.journal.pairs c.self.inside.grants c.self.invariant.tables c.args.self.now c.self.view_is c.args.at c.requires)

pub returns-then-ne : goal.returns-then-ne
returns-then-ne c =
    c.is_some.ensures
    ∙ found_one c.live_session.result (row_of session_name c.in-Some.ended (live_sessions (past_of c.args.self.now) c.args.at)) (c.live_session.ensures.row ∙ session_named (past_of c.args.self.now) c.args.at c.in-Some.ended)
    ∙ beside_if_other c.args.presented c.args.word (live_sessions (past_of c.args.self.now) c.args.at) (sessions_full c.self.inside.registry c.self.inside.journal.pairs c.self.inside.grants c.self.invariant.tables c.args.self.now c.self.view_is c.args.at c.requires (c.if-room.ensures.full refl)) c.in-Some.ended c.in-Some.is (sessions_distinct (past_of c.args.self.now) c.args.at) c.if-ne.ensures

pub returns-else-ne : goal.returns-else-ne
returns-else-ne c = c.if-ne.false ∙ beside_if_same c.args.presented c.args.word (live_sessions (past_of c.args.self.now) c.args.at) (sessions_full c.self.inside.registry c.self.inside.journal.pairs c.self.inside.grants c.self.invariant.tables c.args.self.now c.self.view_is c.args.at c.requires (c.if-room.ensures.full refl)) c.in-Some.ended c.in-Some.is c.if-ne.ensures

pub returns-in-None : goal.returns-in-None
returns-in-None c = beside_if_none c.args.presented c.args.word (live_sessions (past_of c.args.self.now) c.args.at) (sessions_full c.self.inside.registry c.self.inside.journal.pairs c.self.inside.grants c.self.invariant.tables c.args.self.now c.self.view_is c.args.at c.requires (c.if-room.ensures.full refl)) c.in-None.is
