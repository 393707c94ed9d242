use Rattle.std.proofs.Common.{List, sym, ◌∙◌, ap}
use Rattle.rp_login.specs.declared.rows.PendingRow.{PendingRow}
use Rattle.rp_login.specs.Tables.{Tables}
use Rattle.rp_core.proofs.Answered.{waiting_ends, others_stay}
use Rattle.rp_core.proofs.keeping.end_answered.Goals as goal

pub returns-then-is_waiting : goal.returns-then-is_waiting
returns-then-is_waiting c =
    let W : List PendingRow → Tables = λ rows. record c.args.tables.now { pendings = rows } in
    c.end_pending.ensures ∙ ap W (waiting_ends c.args.word c.args.waits c.args.tables.now.pendings c.if-is_waiting.ensures.held.distinct (sym c.if-is_waiting.ensures.row))

pub returns-else-is_waiting : goal.returns-else-is_waiting
returns-else-is_waiting c =
    let W : List PendingRow → Tables = λ rows. record c.args.tables.now { pendings = rows } in
    ap W (others_stay c.args.word c.args.waits c.args.tables.now.pendings c.if-is_waiting.ensures.held.distinct (sym c.if-is_waiting.ensures.row))
