use Rattle.std.proofs.Common.{[], refl}
use Rattle.serving.proofs.Calls.{took_none, one_more}
use Rattle.serving.proofs.sending.send_all.Goals as goal

pub loop-sending-init : goal.loop-sending-init
loop-sending-init g c = ([], refl, took_none (g.L.Link.state c.args.link.now))

pub loop-sending-preserved : goal.loop-sending-preserved
loop-sending-preserved g c =
    one_more (g.L.Link.state c.args.link.now) (g.L.Link.state c.loop-sending.link) (g.L.Link.state c.send.new.link) c.args.all.now c.loop-sending.sending-index c.sending-item.result c.send.result c.loop-sending.invariant c.loop-sending-test.true c.sending-item.is c.send.ensures
