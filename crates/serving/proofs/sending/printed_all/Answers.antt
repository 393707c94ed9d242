use Rattle.std.proofs.Common.{arith}
use Rattle.serving.specs.LinkCalls.{sending_of}
use Rattle.serving.proofs.Printed.{map_more}
use Rattle.serving.proofs.sending.printed_all.Goals as goal

pub loop-i-preserved : goal.loop-i-preserved
loop-i-preserved c =
    map_more sending_of c.args.messages.now c.loop-i.all.items c.push.new.self.items c.loop-i.i c.at.result.now c.in_ok-printed.field-0 c.loop-i.invariant (let e = c.count-i-end.ensures in let t = c.loop-i-test.true in omega arith) c.at.ensures c.in_ok-printed.ensures c.in_ok-push.ensures.items
