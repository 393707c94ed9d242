use Rattle.std.proofs.Common.{arith}
use Rattle.hmac256.proofs.Xor.{xor_lists_by_index}
use Rattle.hmac256.proofs.pbkdf2.xor_of.Goals as goal

pub returns : goal.returns
returns c = xor_lists_by_index c.args.left.now c.args.right.now c.loop-i.out (omega arith) (omega arith) (λ k h. c.loop-i.invariant.done k (omega arith))
