use Rattle.std.proofs.Common.{not, length, ap, arith}
use Rattle.held_rows.specs.Index.{stored_rows}
use Rattle.held_rows.proofs.HeldLaws.{filter_short}
use Rattle.held_rows.proofs.held.Held.take_out.Goals as goal

pub returns-clause-bound : goal.returns-clause-bound
returns-clause-bound g c =
    let rows = ap length c.take_out.ensures.rows in
    let short = filter_short (λ row. not (g.T.Test.passes c.args.test.now row)) (stored_rows c.self.inside.stored) in
    rw (← c.self.view_is) (omega (arith, rows, short))
