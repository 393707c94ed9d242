use Rattle.std.proofs.Common.{[]}
use Rattle.turn_store.specs.Passes.{front_of, setup_of}
use Rattle.serving.proofs.Calls.{took_none}
use Rattle.serving.proofs.Doing.{did_then_calls, with_calls}
use Rattle.serving.proofs.Histories.{lie_at_all}
use Rattle.serving.proofs.LinkEnds.{rose_by_one}
use Rattle.serving.proofs.Telling.{serves_reply, serves_without}
use Rattle.serving.proofs.serve_one.serve_connection.Goals as goal

-- src/serve_one.rt:222:1
pub returns-in-Ok-clause-served : goal.returns-in-Ok-clause-served
returns-in-Ok-clause-served g c =
    let replied = c.in-Ok.ensures.replied in
    let told = c.tell-end.ensures in
    let out = c.reply_to-outcome.new in (
      with_calls replied.0 told.1,
      did_then_calls c.args.pass.now out.pass (g.L.Link.state c.args.tools.now.link) (g.L.Link.state out.tools.link) (g.L.Link.state c.tell-end.new.link) (g.C.Clock.ahead c.args.tools.now.clock) (g.C.Clock.ahead out.tools.clock) (g.W.Draw.ahead c.args.tools.now.draw) (g.W.Draw.ahead out.tools.draw) replied.0 told.1 replied.1 told.2,
      serves_reply (g.X.Role.manner c.args.backend.now.role.now) (g.X.Core.Core.most (setup_of g.X.Core.Core.setup c.args.backend.now.store.now)) g.S.Source.left g.S.Source.faults g.K.Sink.taken g.K.Sink.faults (front_of out.pass) c.args.connection.now (record { source = out.source; sink = c.tell-end.new.sink }) (g.L.Link.state out.tools.link) (g.L.Link.state c.tell-end.new.link) replied.0 (record { places = out.places; end = c.tell-end.result }) c.in-Ok.reply (lie_at_all (front_of c.args.pass.now) (front_of out.pass) replied.0.steps replied.1.made.lie) told replied.2 replied.3 replied.4 c.in-Ok.ensures.places,
    )

-- src/serve_one.rt:222:1
pub returns-in-Err-clause-served : goal.returns-in-Err-clause-served
returns-in-Err-clause-served g c =
    let replied = c.in-Err.ensures.replied in
    let out = c.reply_to-outcome.new in (
      with_calls replied.0 [],
      did_then_calls c.args.pass.now out.pass (g.L.Link.state c.args.tools.now.link) (g.L.Link.state out.tools.link) (g.L.Link.state out.tools.link) (g.C.Clock.ahead c.args.tools.now.clock) (g.C.Clock.ahead out.tools.clock) (g.W.Draw.ahead c.args.tools.now.draw) (g.W.Draw.ahead out.tools.draw) replied.0 [] replied.1 (took_none (g.L.Link.state out.tools.link)),
      serves_without (g.X.Role.manner c.args.backend.now.role.now) (g.X.Core.Core.most (setup_of g.X.Core.Core.setup c.args.backend.now.store.now)) g.S.Source.left g.S.Source.faults g.K.Sink.taken g.K.Sink.faults (front_of out.pass) c.args.connection.now (record { source = out.source; sink = c.write_without-end.new.sink }) replied.0 (record { places = out.places; end = c.write_without-end.result }) c.in-Err.why (lie_at_all (front_of c.args.pass.now) (front_of out.pass) replied.0.steps replied.1.made.lie) c.write_without-end.ensures.wrote replied.2 replied.3 replied.4 c.in-Err.ensures.places,
    )

pub returns-in-Ok-clause-link : goal.returns-in-Ok-clause-link
returns-in-Ok-clause-link g c ended =
    let done = returns-in-Ok-clause-served g c in
    let out = c.reply_to-outcome.new in
    rose_by_one (g.X.Role.manner c.args.backend.now.role.now) (g.X.Core.Core.most (setup_of g.X.Core.Core.setup c.args.backend.now.store.now)) g.S.Source.left g.S.Source.faults g.K.Sink.taken g.K.Sink.faults (front_of out.pass) c.args.connection.now (record { source = out.source; sink = c.tell-end.new.sink }) done.0 (record { places = out.places; end = c.tell-end.result }) (g.L.Link.state c.args.tools.now.link) (g.L.Link.state c.tell-end.new.link) done.1.sent done.2 ended

pub returns-in-Err-clause-link : goal.returns-in-Err-clause-link
returns-in-Err-clause-link g c ended =
    let done = returns-in-Err-clause-served g c in
    let out = c.reply_to-outcome.new in
    rose_by_one (g.X.Role.manner c.args.backend.now.role.now) (g.X.Core.Core.most (setup_of g.X.Core.Core.setup c.args.backend.now.store.now)) g.S.Source.left g.S.Source.faults g.K.Sink.taken g.K.Sink.faults (front_of out.pass) c.args.connection.now (record { source = out.source; sink = c.write_without-end.new.sink }) done.0 (record { places = out.places; end = c.write_without-end.result }) (g.L.Link.state c.args.tools.now.link) (g.L.Link.state out.tools.link) done.1.sent done.2 ended
