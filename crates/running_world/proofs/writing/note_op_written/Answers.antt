use Rattle.running_world.proofs.writing.note_op_written.Goals as goal

pub returns-in-Some-ended-clause-ok : goal.returns-in-Some-ended-clause-ok
returns-in-Some-ended-clause-ok c = rw (c.in-SignedOut.is, c.in-Some-ended.is) c.note_logouts.ensures.ok
