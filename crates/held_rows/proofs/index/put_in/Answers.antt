use Rattle.std.proofs.Common.{sym, arith}
use Rattle.held_rows.specs.Index.{row_at}
use Rattle.held_rows.proofs.Indexing.{inserted, put_none, ranks_put, unplaced, put_at}
use Rattle.held_rows.proofs.index.put_in.Goals as goal

pub returns-in_default-clause-index : goal.returns-in_default-clause-index
returns-in_default-clause-index g c =
    put_none (g.R.Row.key c.args.by) (row_at c.args.slots.now) c.args.slot c.args.index.now.items (sym c.in_default.ensures) c.requires.index

pub search-requires : goal.search-requires
search-requires g c =
    ranks_put (g.R.Row.key c.args.by) (row_at c.args.slots.now) c.args.slot c.args.index.now.items c.requires.index

pub unreachable-requires : goal.unreachable-requires
unreachable-requires g c =
    unplaced (g.R.Row.key c.args.by) (row_at c.args.slots.now) c.args.slot c.args.index.now.items c.requires.index c.in-Some.key.now c.in_default-search.field-0
    c.in_default-search.ensures.found

pub returns-clause-index : goal.returns-clause-index
returns-clause-index g c =
    let room = c.requires.reserved in
    let as_long = c.args.index.now.ok.0 in
    let items = inserted c.insert.result _ _ c.insert.ensures.items c.insert.ensures.full (omega (arith, room, as_long)) in
    rw items
    (put_at (g.R.Row.key c.args.by) (row_at c.args.slots.now) c.args.slot c.args.index.now.items c.requires.index c.in-Some.key.now c.in-Err.place (sym c.in-Some.ensures)
    c.in-Err.ensures.absent)
