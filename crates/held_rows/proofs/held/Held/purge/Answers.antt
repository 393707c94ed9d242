use Rattle.std.proofs.Common.{length, ap, arith}
use Rattle.sso_base.specs.Rows.{lives}
use Rattle.held_rows.specs.Index.{stored_rows}
use Rattle.held_rows.proofs.HeldLaws.{filter_short}
use Rattle.held_rows.proofs.held.Held.purge.Goals as goal

pub returns-clause-bound : goal.returns-clause-bound
returns-clause-bound g c =
    let rows = ap length c.purge.ensures.rows in
    let short = filter_short (λ row. lives g.R.Row.LIFE (g.R.Row.begun row) c.args.at) (stored_rows c.self.inside.stored) in
    rw (← c.self.view_is) (omega (arith, rows, short))
