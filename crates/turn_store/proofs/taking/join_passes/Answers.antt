use Rattle.std.proofs.Common.{arith}
use Rattle.turn_store.proofs.Steps.{joins}
use Rattle.turn_store.proofs.taking.join_passes.Goals as goal

pub join_seat-requires : goal.join_seat-requires
join_seat-requires g c =
    let k = c.args.shared.now.key in (
      c.requires.place.0,
      c.requires.place.1,
      c.requires.idle.2,
      omega (arith, c.requires.counts.0),
      joins g.C.Core.history g.C.Core.setup g.C.Core.is_legal k.core.value k.pass_count c.args.seat.now.id c.args.other.id c.args.seat.now.me.0 c.args.other.me.0 c.requires.idle.0 c.requires.idle.1,
    )
