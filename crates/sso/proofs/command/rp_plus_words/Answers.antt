use Rattle.std.proofs.Common.{inr}
use Rattle.std.proofs.lemmas.Result.{IfOk-weaker}
use Rattle.sso.proofs.Fetched.{rp_plus_fetched}
use Rattle.sso.proofs.command.rp_plus_words.Goals as goal

pub returns-in-Ok-clause-may : goal.returns-in-Ok-clause-may
returns-in-Ok-clause-may g c =
    IfOk-weaker c.answer_rp_plus.result _ _
    (λ outcome is. inr (rp_plus_fetched (record { state = g.D.Door.state; closings = g.D.Door.closings; door_faults = g.D.Door.faults; link_state = g.L.Link.state; moments = g.C.Clock.ahead; words = g.W.Draw.ahead; left = g.D.Source.Source.left; read_faults = g.D.Source.Source.faults; taken = g.D.Sink.Sink.taken; write_faults = g.D.Sink.Sink.faults }) _ _ _ _ c.args.name.now c.as_bytes.result.now c.in-Ok.config outcome c.as_bytes.ensures (c.in-Ok.ensures.found, c.in-Ok.ensures.bound) is))
    c.answer_rp_plus.ensures
