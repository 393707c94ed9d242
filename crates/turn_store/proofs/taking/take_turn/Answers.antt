use Rattle.std.proofs.Common.{◌∙◌, ◌<◌, length, sym, subst, ap, arith}
use Rattle.turn_store.proofs.Steps.{takes_at, held_slot, took, Mine}
use Rattle.turn_store.proofs.taking.take_turn.Goals as goal

pub compare_exchange-found-requires : goal.compare_exchange-found-requires
compare_exchange-found-requires g c =
    let i = c.loop.invariant in
    let k = c.args.shared.now.key in (
      i.2 ∙ c.requires.place,
      omega (arith, c.requires.counts.0),
      takes_at g.C.Core.history g.C.Core.setup g.C.Core.is_legal k.core.value k.pass_count c.args.shared.now.table_id.slots c.loop.seat.id c.peek-word.result c.loop.seat.me c.requires.counts.1
          (ap (λ (m : Mine g.C.Core.history g.C.Core.setup g.C.Core.is_legal k.core.value k.pass_count). m.1) i.3 ∙ c.requires.free.0)
          (subst (λ (m : Mine g.C.Core.history g.C.Core.setup g.C.Core.is_legal k.core.value k.pass_count). 0 < length m.0.passes) (sym i.3) c.requires.free.1) c.if-word-eq0.true,
    )

pub exchange-core-requires : goal.exchange-core-requires
exchange-core-requires g c =
    let e = c.compare_exchange-found.ensures in
    let k = c.args.shared.now.key in (
      e.0 ∙ c.loop.invariant.2 ∙ c.requires.place,
      held_slot g.C.Core.history g.C.Core.setup g.C.Core.is_legal k.core.value k.pass_count c.loop.seat.me c.compare_exchange-found.new.seat.me
          (took g.C.Core.history g.C.Core.setup g.C.Core.is_legal k.core.value k.pass_count c.compare_exchange-found.result c.peek-word.result c.loop.seat.me c.compare_exchange-found.new.seat.me c.if-found-word.true e.2),
    )
