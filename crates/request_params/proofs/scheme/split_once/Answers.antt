use Rattle.std.proofs.Common.{arith, sym}
use Rattle.request_params.proofs.Splits.{split_at, split_none}
use Rattle.request_params.proofs.scheme.split_once.Goals as goal

pub returns-then-byte-mark : goal.returns-then-byte-mark
returns-then-byte-mark c = split_at c.args.mark c.args.bytes.now c.loop-place.place (omega arith) c.loop-place.invariant c.if-byte-mark.true

pub returns : goal.returns
returns c = sym (split_none c.args.mark c.args.bytes.now (λ k h. c.loop-place.invariant k (omega arith)))
