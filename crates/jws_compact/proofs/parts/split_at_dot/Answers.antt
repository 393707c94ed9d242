use Rattle.std.proofs.Common.{arith, sym}
use Rattle.jws_compact.proofs.Splits.{split_at, split_none}
use Rattle.jws_compact.proofs.parts.split_at_dot.Goals as goal

pub returns-then-byte-eq46 : goal.returns-then-byte-eq46
returns-then-byte-eq46 c = split_at c.args.text.now c.loop-i.i (omega arith) c.loop-i.invariant c.if-byte-eq46.true

pub returns : goal.returns
returns c = sym (split_none c.args.text.now (λ k h. c.loop-i.invariant k (omega arith)))
