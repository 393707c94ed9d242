use Rattle.std.proofs.Common.{◌∙◌}
use Rattle.serving.proofs.Telling.{tells_reply, tells_memory}
use Rattle.serving.proofs.serve_one.tell.Goals as goal

-- src/serve_one.rt:201:1
pub returns-in-Ok : goal.returns-in-Ok
returns-in-Ok g c =
    tells_reply (g.X.Role.manner c.args.role.now) g.K.Sink.taken g.K.Sink.faults (g.L.Link.state c.args.link.now) (g.L.Link.state c.send-sent.new.link) c.args.sink.now c.write_page.new.sink c.args.reply.now c.write_page.result c.in-Ok.page.notices.items c.send-sent.result.bytes c.in-Ok.ensures.notices (c.send-sent.ensures.bytes ∙ c.in-Ok.ensures.bytes) c.send-sent.ensures.sent c.write_page.ensures

-- src/serve_one.rt:201:1
pub returns-in-Err : goal.returns-in-Err
returns-in-Err g c =
    tells_memory (g.X.Role.manner c.args.role.now) g.K.Sink.taken g.K.Sink.faults (g.L.Link.state c.args.link.now) c.args.sink.now c.write_without.new.sink c.args.reply.now c.write_without.result c.write_without.ensures.wrote
