use Rattle.std.proofs.Common.{◌∙◌, subst}
use Rattle.op_core.specs.Providing.{Providing}
use Rattle.running_world.specs.Roles.{IsLegalAt}
use Rattle.running_world.proofs.LiveSessions.{lives_at, session_found, session_user}
use Rattle.running_world.proofs.roles.TimedProvider.live_session.Goals as goal

pub returns-clause-row : goal.returns-clause-row
returns-clause-row c =
    session_found c.self.inside.core c.args.self.now c.self.view_is c.tables.result.now c.args.at c.moment.result c.moment.ensures c.tables.ensures.agrees c.live_session.ensures.held
    c.args.word.now c.in-Some.word c.in-Some.is c.copied.result (c.copied.ensures ∙ c.live_session.ensures.row)

pub returns-clause-user : goal.returns-clause-user
returns-clause-user c =
    let I : Providing → Type 0 = λ p. IsLegalAt p c.self.inside.last in
    session_user c.args.self.now c.self.inside.last (lives_at c.args.self.now c.args.at) (subst I c.self.view_is c.self.invariant) c.args.word.now c.in-Some.word c.in-Some.is c.copied.result
    (session_found c.self.inside.core c.args.self.now c.self.view_is c.tables.result.now c.args.at c.moment.result c.moment.ensures c.tables.ensures.agrees c.live_session.ensures.held
    c.args.word.now c.in-Some.word c.in-Some.is c.copied.result (c.copied.ensures ∙ c.live_session.ensures.row))
