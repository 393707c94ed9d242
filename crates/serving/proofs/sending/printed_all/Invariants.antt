use Rattle.std.proofs.Common.{◌≡◌, map, take}
use Rattle.serving.specs.LinkCalls.{sending_of}
use Rattle.serving.proofs.sending.printed_all.Given as goal

abbrev pub invariant-loop-i : goal.invariant-loop-i
invariant-loop-i l = l.all.items ≡ map sending_of (take l.i l.messages)
