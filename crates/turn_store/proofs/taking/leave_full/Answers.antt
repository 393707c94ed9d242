use Rattle.std.proofs.Common.{◌∙◌, arith}
use Rattle.turn_store.proofs.Steps.{leaves_full_at}
use Rattle.turn_store.proofs.taking.leave_full.Goals as goal

pub fetch_sub-found-requires : goal.fetch_sub-found-requires
fetch_sub-found-requires g c =
    let e = c.exchange-nothing.ensures in
    let r = c.requires in
    let k = c.args.shared.now.key in (
      e.0 ∙ r.place,
      omega (arith, r.counts.0),
      leaves_full_at g.C.Core.history g.C.Core.setup g.C.Core.is_legal k.core.value k.pass_count c.args.shared.now.table_id.slots c.exchange-nothing.new.seat.id c.args.core r.pass.0 c.args.seat.now.me c.exchange-nothing.new.seat.me
          r.counts.1 r.turn e.3 r.pass.1 r.pass.2 r.legal,
    )
