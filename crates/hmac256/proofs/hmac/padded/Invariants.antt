use Rattle.std.proofs.Common.{◌≡◌, length, take}
use Rattle.hmac256.specs.Hmac.{masked}
use Rattle.hmac256.proofs.hmac.padded.Given as goal

abbrev pub invariant-loop-i : goal.invariant-loop-i
invariant-loop-i l = record {
  long : length l.out ≡ 64;
  done : take l.i l.out ≡ masked l.pad (take l.i l.block);
}
