use Rattle.running_world.proofs.noting.note_written.Goals as goal

pub returns-in-Party-Party-clause-ok : goal.returns-in-Party-Party-clause-ok
returns-in-Party-Party-clause-ok c = rw (c.in-Party-Party.is-0, c.in-Party-Party.is-1) c.note_rp_written.ensures.ok
