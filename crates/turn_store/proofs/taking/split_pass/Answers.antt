use Rattle.std.proofs.Common.{arith}
use Rattle.turn_store.proofs.Steps.{splits}
use Rattle.turn_store.proofs.taking.split_pass.Goals as goal

pub split_seat-requires : goal.split_seat-requires
split_seat-requires g c =
    let k = c.args.shared.now.key in (
      c.requires.place,
      omega (arith, c.requires.counts.0),
      splits g.C.Core.history g.C.Core.setup g.C.Core.is_legal k.core.value k.pass_count c.args.seat.now.id c.args.seat.now.me.0 c.requires.idle,
    )
