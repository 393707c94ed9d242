use Rattle.std.proofs.Common.{inl}
use Rattle.serving.proofs.Calls.{took_one}
use Rattle.serving.proofs.serve_one.answer_to.Goals as goal

-- src/serve_one.rt:60:1
pub returns : goal.returns
returns g c = inl (record { sent = c.in_ok-sending.sending; answer = c.send-back.result }, c.in_ok-sending.ensures, took_one (g.L.Link.state c.args.link.now) (g.L.Link.state c.send-back.new.link) c.in_ok-sending.sending c.send-back.result c.send-back.ensures, c.peer_answer.ensures)
