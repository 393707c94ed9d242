use Rattle.std.proofs.Common.{arith}
use Rattle.held_rows.proofs.Parts.{as_many}
use Rattle.held_rows.proofs.held.Held.len.Goals as goal

pub returns : goal.returns
returns g c =
    let s = c.self.inside.stored in
    let long = as_many g.R.Row.name g.R.Row.key g.R.Row.begun g.R.Row.IsSound s c.self.invariant in
    let len = c.len.ensures in
    let as_long = s.by_issue.ok.0 in
    rw (← c.self.view_is) (omega (arith, long, len, as_long))
