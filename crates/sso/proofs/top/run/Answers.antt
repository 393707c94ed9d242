use Rattle.sso.proofs.Answering.{call_ends, words_tell, storm_tells, contents_tell}
use Rattle.sso.proofs.top.run.Goals as goal

pub returns-in-Ok-clause-ended : goal.returns-in-Ok-clause-ended
returns-in-Ok-clause-ended g c = call_ends (record { tells = record { state = g.D.Door.state; closings = g.D.Door.closings; door_faults = g.D.Door.faults; link_state = g.L.Link.state; moments = g.C.Clock.ahead; words = g.W.Draw.ahead; left = g.D.Source.Source.left; read_faults = g.D.Source.Source.faults; taken = g.D.Sink.Sink.taken; write_faults = g.D.Sink.Sink.faults }; olds = c.args.desks.now.items; news = c.answer_words.new.desks.items; contents = g.H.Shelf.contents c.args.shelf.now; shelf_before = g.H.Shelf.faults c.args.shelf.now; shelf_after = g.H.Shelf.faults c.answer_words.new.shelf; words = c.args.words.now; before = g.K.Sink.faults c.args.out.now; after = g.K.Sink.faults c.write_outcome.new.out; old = g.K.Sink.taken c.args.out.now; new = g.K.Sink.taken c.write_outcome.new.out }) c.in-Ok.outcome c.write_outcome.result c.in-Ok.ensures.idle c.in-Ok.ensures.may c.write_outcome.ensures.written

pub returns-in-Ok-clause-words : goal.returns-in-Ok-clause-words
returns-in-Ok-clause-words g c = words_tell (record { tells = record { state = g.D.Door.state; closings = g.D.Door.closings; door_faults = g.D.Door.faults; link_state = g.L.Link.state; moments = g.C.Clock.ahead; words = g.W.Draw.ahead; left = g.D.Source.Source.left; read_faults = g.D.Source.Source.faults; taken = g.D.Sink.Sink.taken; write_faults = g.D.Sink.Sink.faults }; olds = c.args.desks.now.items; news = c.answer_words.new.desks.items; contents = g.H.Shelf.contents c.args.shelf.now; shelf_before = g.H.Shelf.faults c.args.shelf.now; shelf_after = g.H.Shelf.faults c.answer_words.new.shelf; words = c.args.words.now; before = g.K.Sink.faults c.args.out.now; after = g.K.Sink.faults c.write_outcome.new.out; old = g.K.Sink.taken c.args.out.now; new = g.K.Sink.taken c.write_outcome.new.out }) c.in-Ok.outcome c.write_outcome.result c.in-Ok.ensures.may c.write_outcome.ensures.written

pub returns-in-Ok-clause-storm : goal.returns-in-Ok-clause-storm
returns-in-Ok-clause-storm g c = storm_tells (record { tells = record { state = g.D.Door.state; closings = g.D.Door.closings; door_faults = g.D.Door.faults; link_state = g.L.Link.state; moments = g.C.Clock.ahead; words = g.W.Draw.ahead; left = g.D.Source.Source.left; read_faults = g.D.Source.Source.faults; taken = g.D.Sink.Sink.taken; write_faults = g.D.Sink.Sink.faults }; olds = c.args.desks.now.items; news = c.answer_words.new.desks.items; contents = g.H.Shelf.contents c.args.shelf.now; shelf_before = g.H.Shelf.faults c.args.shelf.now; shelf_after = g.H.Shelf.faults c.answer_words.new.shelf; words = c.args.words.now; before = g.K.Sink.faults c.args.out.now; after = g.K.Sink.faults c.write_outcome.new.out; old = g.K.Sink.taken c.args.out.now; new = g.K.Sink.taken c.write_outcome.new.out }) c.in-Ok.outcome c.write_outcome.result c.in-Ok.ensures.may c.write_outcome.ensures.written

pub returns-in-Ok-clause-contents : goal.returns-in-Ok-clause-contents
returns-in-Ok-clause-contents g c = contents_tell (record { tells = record { state = g.D.Door.state; closings = g.D.Door.closings; door_faults = g.D.Door.faults; link_state = g.L.Link.state; moments = g.C.Clock.ahead; words = g.W.Draw.ahead; left = g.D.Source.Source.left; read_faults = g.D.Source.Source.faults; taken = g.D.Sink.Sink.taken; write_faults = g.D.Sink.Sink.faults }; olds = c.args.desks.now.items; news = c.answer_words.new.desks.items; contents = g.H.Shelf.contents c.args.shelf.now; shelf_before = g.H.Shelf.faults c.args.shelf.now; shelf_after = g.H.Shelf.faults c.answer_words.new.shelf; words = c.args.words.now; before = g.K.Sink.faults c.args.out.now; after = g.K.Sink.faults c.write_outcome.new.out; old = g.K.Sink.taken c.args.out.now; new = g.K.Sink.taken c.write_outcome.new.out }) c.in-Ok.outcome c.write_outcome.result c.in-Ok.ensures.may c.write_outcome.ensures.written
