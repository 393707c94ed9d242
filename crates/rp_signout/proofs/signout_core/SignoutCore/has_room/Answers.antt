use Rattle.std.proofs.Common.{ap, ◌∙◌, reverse}
use Rattle.signout_answer.specs.declared.asks.EndSetup.{EndSetup}
use Rattle.signout_answer.specs.Answering.{has_room}
use Rattle.rp_signout.proofs.Looking.{room_looked_up}
use Rattle.rp_signout.proofs.signout_core.SignoutCore.has_room.Goals as goal

pub returns : goal.returns
returns g c =
    let inside = c.self.inside in
    let E = λ (e : EndSetup). has_room e (reverse c.args.self.now.history) c.args.at c.args.word in
    room_looked_up g.P.Provides.plain_ask g.P.Provides.IsAsk g.P.Core.weighs g.P.Core.most g.P.Core.is_legal (record { own = inside.setup; inner = g.P.Core.setup inside.inner }) (g.P.Core.history inside.inner)
    inside.kept.kept inside.kept.weight inside.kept.last inside.kept.most inside.questions.rows c.self.invariant c.args.self.now.history (ap (λ x. x.history) c.self.view_is)
    c.args.at c.requires c.args.word c.has_room.ensures.held.distinct c.has_room.result c.has_room.ensures.room
    ∙ ap E (ap (λ x. x.setup) c.self.view_is)
