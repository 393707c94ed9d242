use Rattle.std.proofs.Common.{◌≡◌, true, false}
use Rattle.sso_base.specs.Rows.{row_of, lives}
use Rattle.held_rows.proofs.Found.{is_found, is_gone, is_absent}
use Rattle.held_rows.proofs.held.Held.living.Goals as goal

pub returns-in_default-clause-row : goal.returns-in_default-clause-row
returns-in_default-clause-row g c =
    is_absent g.R.Row.LIFE g.R.Row.begun c.args.at (row_of g.R.Row.name c.args.name.now c.args.self.now.rows) c.in_default.ensures.row

pub returns-then-is_live-clause-row : goal.returns-then-is_live-clause-row
returns-then-is_live-clause-row g c =
    let live : true ≡ lives g.R.Row.LIFE (g.R.Row.begun c.in-Some.row.now) c.args.at = rw (c.LIFE.ensures, c.begun.ensures) at c.if-is_live.ensures in
    is_found g.R.Row.LIFE g.R.Row.begun c.args.at c.in-Some.row.now (row_of g.R.Row.name c.args.name.now c.args.self.now.rows) c.in-Some.ensures.row live

pub returns-else-is_live-clause-row : goal.returns-else-is_live-clause-row
returns-else-is_live-clause-row g c =
    let ended : false ≡ lives g.R.Row.LIFE (g.R.Row.begun c.in-Some.row.now) c.args.at = rw (c.LIFE.ensures, c.begun.ensures) at c.if-is_live.ensures in
    is_gone g.R.Row.LIFE g.R.Row.begun c.args.at c.in-Some.row.now (row_of g.R.Row.name c.args.name.now c.args.self.now.rows) c.in-Some.ensures.row ended
