use Rattle.std.proofs.Common.{◌∙◌, arith}
use Rattle.turn_store.proofs.Steps.{counts_at, counted}
use Rattle.turn_store.proofs.taking.count_entry.Goals as goal

pub fetch_add-found-requires : goal.fetch_add-found-requires
fetch_add-found-requires g c =
    let e = c.exchange-nothing.ensures in
    let r = c.requires in
    let k = c.args.shared.now.key in (
      e.0 ∙ r.place,
      omega (arith, r.counts.0),
      counts_at g.C.Core.history g.C.Core.setup g.C.Core.is_legal k.core.value k.pass_count c.args.shared.now.table_id.slots c.exchange-nothing.new.seat.id c.args.core r.pass.0 r.entry.0 c.args.seat.now.me c.exchange-nothing.new.seat.me
          r.counts.1 r.turn e.3 r.pass.1 r.pass.2 r.entry.1 r.legal r.small,
    )

pub returns-clause-free : goal.returns-clause-free
returns-clause-free g c =
    let k = c.args.shared.now.key in
    counted g.C.Core.history g.C.Core.setup g.C.Core.is_legal k.core.value k.pass_count c.args.core c.args.seat.now.me c.exchange-nothing.new.seat.me c.fetch_add-found.new.seat.me c.requires.turn c.exchange-nothing.ensures.3
    c.fetch_add-found.ensures.2
