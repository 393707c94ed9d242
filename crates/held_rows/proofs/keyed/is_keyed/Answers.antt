use Rattle.held_rows.proofs.Exactly.{has_exactly}
use Rattle.held_rows.proofs.keyed.is_keyed.Goals as goal

pub returns : goal.returns
returns g c = has_exactly c.has_key.result (g.R.Row.key c.args.by c.args.row.now) c.args.key.now c.has_key.ensures.yes c.has_key.ensures.no
