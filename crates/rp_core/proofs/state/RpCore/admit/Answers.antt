use Rattle.rp_exchange.specs.Weight.{ask_weight}
use Rattle.rp_core.proofs.Committing.{room_outside, full_outside}
use Rattle.rp_core.proofs.state.RpCore.admit.Goals as goal

pub returns-clause-room : goal.returns-clause-room
returns-clause-room c =
    room_outside c.args.self.now c.self.inside.setup c.self.inside.journal.pairs c.self.inside.logins (ask_weight c.args.ask.now) c.self.inside.journal.most c.admit.result
    c.self.view_is c.self.invariant.most_is c.admit.ensures.room

pub returns-clause-full : goal.returns-clause-full
returns-clause-full c =
    full_outside c.args.self.now c.self.inside.setup c.self.inside.journal.pairs c.self.inside.logins (ask_weight c.args.ask.now) c.self.inside.journal.most c.admit.result
    c.self.view_is c.self.invariant.most_is c.admit.ensures.full
