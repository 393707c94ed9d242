use Rattle.std.proofs.Common.{arith}
use Rattle.sso_base.specs.Rows.{lives}
use Rattle.held_rows.specs.Index.{stored_rows}
use Rattle.held_rows.proofs.HeldLaws.{filter_short}
use Rattle.held_rows.proofs.stored.Stored.count_all_live.Goals as goal

-- no more are counted than rows are held
pub overflow_add-count : goal.overflow_add-count
overflow_add-count g c =
    let live = filter_short (λ row. lives g.R.Row.LIFE (g.R.Row.begun row) c.args.at) (stored_rows c.args.self.now) in
    let few = c.requires.held.few in
    let counted = c.loop-slot.invariant in
    omega (arith, live, few, counted)
