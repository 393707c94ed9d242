use Rattle.op_core.proofs.Committing.{committed_as, room_inside}
use Rattle.op_core.proofs.state.OpCore.commit.Goals as goal

pub take_in-requires-clause-room : goal.take_in-requires-clause-room
take_in-requires-clause-room c =
    room_inside c.args.self.now c.self.inside.registry c.self.inside.journal.pairs c.self.inside.grants c.args.weight c.self.inside.journal.most c.self.view_is c.self.invariant.most_is c.requires.room

pub invariant_of-self-2 : goal.invariant_of-self-2
invariant_of-self-2 c =
    committed_as c.self.inside.registry c.self.inside.journal.pairs c.take_in.new.journal.pairs c.self.inside.grants c.take_in.new.grants (record { entry = c.args.entry; reply = c.args.reply }) c.args.weight
    c.args.outcome.made.turn c.args.outcome.made.session c.args.outcome.made.code c.args.outcome.made.token c.args.outcome.used c.args.outcome.client
    c.args.self.now c.self.view_is c.self.inside.journal.most c.take_in.new.journal.most c.in_ok-take_in.ensures.most c.self.invariant c.requires.entry c.requires.weight c.in_ok-take_in.ensures.pairs c.in_ok-take_in.ensures.tables
    (c.requires.moment, c.requires.answer, c.requires.rows, c.requires.own_turn, c.requires.own_session, c.requires.own_code, c.requires.own_token, c.requires.room)
