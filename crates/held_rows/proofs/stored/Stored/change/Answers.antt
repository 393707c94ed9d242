use Rattle.std.proofs.Common.{Option, IfSome, ap, sym, subst}
use Rattle.held_rows.specs.Index.{issued_row, rows_at, stored_rows, IsReplaced}
use Rattle.held_rows.specs.SlotList.{with_value}
use Rattle.held_rows.proofs.StoredChange.{row_replaced, stored_changed}
use Rattle.held_rows.proofs.stored.Stored.change.Goals as goal

pub returns-clause-stored : goal.returns-clause-stored
returns-clause-stored g c =
    let change = c.args.change.now in
    rw c.change.ensures
    (stored_changed g.R.Row.name g.R.Row.key g.R.Row.begun g.R.Row.IsSound c.args.self.now c.requires.stored c.args.slot c.value_mut-issued.result.now c.value_mut-issued.ensures.value (g.C.Change.changed change)
    (g.met.C.Change.keys_stay change) g.met.R.Row.named (g.met.C.Change.moments_stay change) (g.met.C.Change.rows_stay_sound change))

pub returns-clause-row : goal.returns-clause-row
returns-clause-row g c =
    let change = c.args.change.now in
    let issued = c.value_mut-issued.result.now in
    let new = with_value c.args.self.now.slots c.args.slot (record issued { row = g.C.Change.changed change issued.row }) in
    let S : Option g.row.R.Denot → Type 0 = λ o. IfSome o (λ row. IsReplaced (stored_rows c.args.self.now) (rows_at new c.args.self.now.by_issue.items) row (g.C.Change.changed change row)) in
    rw c.change.ensures
    (subst S (sym (ap issued_row c.value_mut-issued.ensures.value))
    (row_replaced g.R.Row.name g.R.Row.key g.R.Row.begun g.R.Row.IsSound c.args.self.now c.requires.stored c.args.slot issued c.value_mut-issued.ensures.value (g.C.Change.changed change)))
