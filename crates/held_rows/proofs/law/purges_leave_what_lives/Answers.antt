use Rattle.held_rows.proofs.RowOf.{row_of-live_rows}
use Rattle.held_rows.proofs.law.purges_leave_what_lives.Goals as goal

pub returns : goal.returns
returns g c = λ life begun at w rows distinct. row_of-live_rows g.R.Row.name life begun at w rows distinct
