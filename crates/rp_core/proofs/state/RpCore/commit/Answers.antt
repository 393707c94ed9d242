use Rattle.rp_core.proofs.Committing.{may_update_as, committed_as, room_inside}
use Rattle.rp_core.proofs.state.RpCore.commit.Goals as goal

pub take_in-requires-clause-may : goal.take_in-requires-clause-may
take_in-requires-clause-may c =
    may_update_as c.self.inside.setup c.self.inside.journal.pairs c.self.inside.logins (record { entry = c.args.entry; reply = c.args.reply })
    c.args.made.login c.args.made.pending c.args.made.visit c.args.made.seen c.args.made.dead c.args.self.now c.self.view_is c.self.inside.journal.most c.self.invariant c.requires.entry
    (c.requires.moment, c.requires.answer, c.requires.rows)

pub take_in-requires-clause-room : goal.take_in-requires-clause-room
take_in-requires-clause-room c =
    room_inside c.args.self.now c.self.inside.setup c.self.inside.journal.pairs c.self.inside.logins c.args.weight c.self.inside.journal.most c.self.view_is c.self.invariant.most_is c.requires.room

pub invariant_of-self-2 : goal.invariant_of-self-2
invariant_of-self-2 c =
    committed_as c.self.inside.setup c.self.inside.journal.pairs c.take_in.new.journal.pairs c.args.weight c.self.inside.logins c.take_in.new.logins (record { entry = c.args.entry; reply = c.args.reply })
    c.args.made.login c.args.made.pending c.args.made.visit c.args.made.seen c.args.made.dead c.args.self.now c.self.view_is c.self.inside.journal.most c.take_in.new.journal.most c.in_ok-take_in.ensures.most c.self.invariant c.requires.entry c.requires.weight
    c.in_ok-take_in.ensures.pairs c.in_ok-take_in.ensures.tables (c.requires.moment, c.requires.answer, c.requires.rows, c.requires.room)
