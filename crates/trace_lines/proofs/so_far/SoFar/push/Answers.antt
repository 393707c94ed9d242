use Rattle.std.proofs.Common.{◌+◌, ◌^◌, ◌<◌, arith}
use Rattle.trace_lines.proofs.Counting.{places_room}
use Rattle.trace_lines.proofs.so_far.SoFar.push.Goals as goal

pub overflow_add-places : goal.overflow_add-places
overflow_add-places c = let room : c.self.inside.places + 1 < 2 ^ 64 = places_room _ _ c.self.inside.places c.self.view_is c.requires c.self.invariant.1 in omega arith
