use Rattle.std.proofs.Common.{sym, arith}
use Rattle.held_rows.specs.Index.{row_at}
use Rattle.held_rows.proofs.Indexing.{taken_none, no_gap, taken_at}
use Rattle.held_rows.proofs.index.take_from.Goals as goal

pub returns-in_default-clause-index : goal.returns-in_default-clause-index
returns-in_default-clause-index g c =
    taken_none (g.R.Row.key c.args.by) (row_at c.args.slots.now) c.args.slot c.args.index.now.items (sym c.in_default.ensures) c.requires

pub unreachable-requires : goal.unreachable-requires
unreachable-requires g c =
    no_gap (g.R.Row.key c.args.by) (row_at c.args.slots.now) c.args.slot c.args.index.now.items c.requires c.in-Some.key.now c.in_default-search.field-0 (sym c.in-Some.ensures)
    c.in_default-search.ensures.absent

pub returns-clause-index : goal.returns-clause-index
returns-clause-index g c =
    let within = c.in-Ok.ensures.found.in_range in
    let as_long = c.args.index.now.ok.0 in
    let items = rw (c.remove.ensures.succeeds 0 (omega (arith, within, as_long))) at c.remove.ensures.items in
    rw items
    (taken_at (g.R.Row.key c.args.by) (row_at c.args.slots.now) c.args.slot c.args.index.now.items c.requires c.in-Some.key.now c.in-Ok.place (sym c.in-Some.ensures)
    c.in-Ok.ensures.found)
