use Rattle.held_rows.specs.Index.{row_at}
use Rattle.held_rows.proofs.Ranks.{start_found, start_gap}
use Rattle.held_rows.proofs.index.start.Goals as goal

pub returns-in-Ok : goal.returns-in-Ok
returns-in-Ok g c = start_found (g.R.Row.key c.args.by) (row_at c.args.slots.now) c.args.index.now.items c.args.key.now c.requires c.in-Ok.place c.in-Ok.ensures.found

pub returns-in-Err : goal.returns-in-Err
returns-in-Err g c = start_gap (g.R.Row.key c.args.by) (row_at c.args.slots.now) c.args.index.now.items c.args.key.now c.requires c.in-Err.place c.in-Err.ensures.absent
