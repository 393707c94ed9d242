use Rattle.std.proofs.Common.{arith, ◌+◌, length}
use Rattle.std.proofs.lemmas.List.{length-take-le}
use Rattle.jws_compact.proofs.Splits.{front}
use Rattle.jws_compact.proofs.parts.signed_part.Goals as goal

pub slice_bounds-result-end : goal.slice_bounds-result-end
slice_bounds-result-end c =
    let f = front c.args.text.now c.args.header.now c.args.payload.now c.args.mac.now c.requires in
    omega (arith, length-take-le (length c.args.header.now + 1 + length c.args.payload.now) c.args.text.now f.0)

pub returns : goal.returns
returns c = (front c.args.text.now c.args.header.now c.args.payload.now c.args.mac.now c.requires).1
