use Rattle.std.proofs.Common.{take}
use Rattle.serving.proofs.Calls.{SentSo}
use Rattle.serving.proofs.sending.send_all.Given as goal

abbrev pub invariant-loop-sending : goal.invariant-loop-sending
invariant-loop-sending g l = SentSo (g.L.Link.state l.initial.link) (g.L.Link.state l.link) (take l.sending-index l.all)
