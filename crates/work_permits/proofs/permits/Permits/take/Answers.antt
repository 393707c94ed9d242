use Rattle.std.proofs.Common.{rules, ◌∙◌, arith}
use Rattle.work_permits.proofs.Counting.{takes}
use Rattle.work_permits.proofs.permits.Permits.take.Goals as goal

pub compare_exchange-found-requires : goal.compare_exchange-found-requires
compare_exchange-found-requires g c =
    let shared = c.args.self.now.table.shared in
    let seat = c.loop.seat in (
      search rules,
      search rules,
      takes shared.key shared.table_id.slots seat.id seat.me c.peek-out.result (c.loop.invariant.3 ∙ c.sit-seat.ensures.1)
          (omega (arith, c.if-out-self.true, c.args.self.now.same)),
    )
