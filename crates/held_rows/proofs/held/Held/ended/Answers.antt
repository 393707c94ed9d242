use Rattle.held_rows.proofs.Looking.{over_there}
use Rattle.held_rows.proofs.held.Held.ended.Goals as goal

pub returns-in-Some-clause-some : goal.returns-in-Some-clause-some
returns-in-Some-clause-some g c =
    let s = c.self.inside.stored in
    rw (← c.self.view_is)
    (over_there g.R.Row.name g.R.Row.key g.R.Row.begun g.R.Row.IsSound s c.self.invariant g.R.Row.LIFE c.args.at c.in-Some.slot _ c.row_in.ensures c.in-Some.ensures.some.1)
