use Rattle.std.proofs.Common.{ap}
use Rattle.std.specs.Option.{option_copied}
use Rattle.refresh_book.proofs.Looking.{turn_looked_up}
use Rattle.refresh_book.proofs.refresh_core.RefreshCore.turn_offline.Goals as goal

pub returns : goal.returns
returns g c =
    let inside = c.self.inside in
    turn_looked_up g.P.Provides.plain_ask g.P.Provides.given_reply g.P.Provides.provided g.P.Provides.IsAsk g.P.Core.weighs g.P.Core.most g.P.Core.is_legal (record { inner = g.P.Core.setup inside.inner; registry = inside.registry }) (g.P.Core.history inside.inner)
    inside.kept.kept inside.kept.weight inside.kept.last inside.kept.most inside.turns.rows inside.codes.rows inside.book c.self.invariant.1 c.args.self.now.history (ap (λ x. x.history) c.self.view_is)
    c.args.at c.requires c.args.turn c.in-Some.turn c.in-Some.is c.live_turn.ensures.held.distinct (option_copied c.live_turn.result) c.live_turn.ensures.row c.mark_of_turn.result c.mark_of_turn.ensures
