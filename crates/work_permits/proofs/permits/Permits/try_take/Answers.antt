use Rattle.std.proofs.Common.{◌≡◌, rules, ap, ◌∙◌, arith}
use Rattle.work_permits.specs.declared.holder.Holder.{Holder}
use Rattle.work_permits.proofs.Counting.{looks, takes}
use Rattle.work_permits.proofs.permits.Permits.try_take.Goals as goal

pub load-out-requires : goal.load-out-requires
load-out-requires g c =
    let shared = c.args.self.now.table.shared in
    let seat = c.loop.seat in (
      search rules,
      search rules,
      looks shared.key shared.table_id.slots seat.id seat.me (c.loop.invariant.3 ∙ c.sit-seat.ensures.1),
    )

pub compare_exchange-found-requires : goal.compare_exchange-found-requires
compare_exchange-found-requires g c =
    let shared = c.args.self.now.table.shared in
    let seat = c.load-out.new.seat in
    let is = c.loop.invariant.3 ∙ c.sit-seat.ensures.1 in
    let all : c.loop.seat.me.0.most ≡ shared.key = ap (λ (h : Holder). h.most) is in (
      search rules,
      search rules,
      takes shared.key shared.table_id.slots seat.id seat.me c.load-out.result
          (c.load-out.ensures.2.2 (λ e. absurd (omega (arith, e, all, c.if-out-self.false, c.args.self.now.same))) ∙ is)
          (omega (arith, c.if-out-self.false, c.args.self.now.same)),
    )
