use Rattle.std.proofs.Common.{◌≡◌, ℕ, ◌<◌, get_or, length}
use Rattle.std.specs.Prelude.{bit_xor}
use Rattle.hmac256.proofs.pbkdf2.xor_of.Given as goal

abbrev pub invariant-loop-i : goal.invariant-loop-i
invariant-loop-i l = record {
  long : length l.out ≡ 32;
  done : (k : ℕ) → k < l.i → get_or l.out k 0 ≡ bit_xor (get_or l.left k 0) (get_or l.right k 0);
}
