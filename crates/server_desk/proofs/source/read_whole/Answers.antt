use Rattle.std.proofs.Common.{arith}
use Rattle.server_desk.proofs.Pieces.{gives_take}
use Rattle.server_desk.proofs.source.read_whole.Goals as goal

pub loop-done-preserved : goal.loop-done-preserved
loop-done-preserved g c =
    record {
      same = omega (arith, c.read_behind.ensures.room, c.loop-done.invariant.same);
      within = c.in_ok-count.ensures.bound;
      given = gives_take _ _ _ _ _ _ _ c.loop-done.invariant.given c.in_ok-count.ensures.front c.in_ok-count.ensures.given;
      later = omega (arith, c.loop-done.invariant.later, c.in_ok-count.ensures.cause.later);
    }
