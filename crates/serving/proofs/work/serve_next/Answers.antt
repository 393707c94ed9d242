use Rattle.std.specs.Prelude.{IfSome}
use Rattle.server_desk.specs.Doors.{GaveConnection}
use Rattle.std.proofs.Common.{[], ◌∷◌, Ok, refl, ap, subst, sym}
use Rattle.std.proofs.lemmas.List.{append-nil}
use Rattle.turn_store.specs.Passes.{front_of, setup_of}
use Rattle.serving.specs.Work.{MadeAll}
use Rattle.serving.proofs.Workers.{at_desk_none, at_desk_one, made_none}
use Rattle.serving.proofs.work.serve_next.Goals as goal

-- src/work.rt:44:1
pub returns-in-Ok-Some-clause-worked : goal.returns-in-Ok-Some-clause-worked
returns-in-Ok-Some-clause-worked g c =
    let done = c.serve_connection.ensures.served in
    let w = done.0 in (
      record { came = c.in-Ok-Some.connection; went = c.serve_connection.new.connection; work = w; served = c.serve_connection.result } ∷ [],
      subst (λ steps. MadeAll c.args.pass.now c.serve_connection.new.pass steps) (sym (append-nil w.steps)) done.1.made,
      at_desk_one (g.X.Role.manner c.args.backend.now.role.now) (g.X.Core.Core.most (setup_of g.X.Core.Core.setup c.args.backend.now.store.now)) g.D.Source.Source.left g.D.Source.Source.faults g.D.Sink.Sink.taken g.D.Sink.Sink.faults (front_of c.serve_connection.new.pass) (g.L.Link.state c.args.desk.now.tools.link) (g.C.Clock.ahead c.args.desk.now.tools.clock) (g.W.Draw.ahead c.args.desk.now.tools.draw)
          c.args.pass.now c.serve_connection.new.pass (g.D.Door.state c.args.desk.now.door) (g.D.Door.state c.next.new.self) (g.D.Door.state c.give_back.new.door) (g.L.Link.state c.serve_connection.new.tools.link) (g.C.Clock.ahead c.serve_connection.new.tools.clock) (g.W.Draw.ahead c.serve_connection.new.tools.draw)
          c.in-Ok-Some.connection c.serve_connection.new.connection c.serve_connection.result w c.requires.given (subst (λ o. IfSome o (λ x. GaveConnection (g.D.Door.state c.args.desk.now.door) (g.D.Door.state c.next.new.self) x)) c.in-Ok-Some.field-0-is c.in-Ok-Some.ensures.gave) c.give_back.ensures.served done.1 done.2,
      refl,
    )

-- src/work.rt:44:1
pub returns-in-Ok-None-clause-worked : goal.returns-in-Ok-None-clause-worked
returns-in-Ok-None-clause-worked g c =
    ([], made_none c.args.pass.now, rw (c.in-Ok-None.ensures.closed (ap Ok c.in-Ok-None.field-0-is)).0 (at_desk_none (g.X.Role.manner c.args.backend.now.role.now) (g.X.Core.Core.most (setup_of g.X.Core.Core.setup c.args.backend.now.store.now)) g.D.Source.Source.left g.D.Source.Source.faults g.D.Sink.Sink.taken g.D.Sink.Sink.faults (front_of c.args.pass.now) (g.L.Link.state c.args.desk.now.tools.link) (g.C.Clock.ahead c.args.desk.now.tools.clock) (g.W.Draw.ahead c.args.desk.now.tools.draw) (g.D.Door.state c.args.desk.now.door)), refl)

-- src/work.rt:44:1
pub returns-in-Err-clause-worked : goal.returns-in-Err-clause-worked
returns-in-Err-clause-worked g c =
    ([], made_none c.args.pass.now, rw c.in-Err.ensures.kept (at_desk_none (g.X.Role.manner c.args.backend.now.role.now) (g.X.Core.Core.most (setup_of g.X.Core.Core.setup c.args.backend.now.store.now)) g.D.Source.Source.left g.D.Source.Source.faults g.D.Sink.Sink.taken g.D.Sink.Sink.faults (front_of c.args.pass.now) (g.L.Link.state c.args.desk.now.tools.link) (g.C.Clock.ahead c.args.desk.now.tools.clock) (g.W.Draw.ahead c.args.desk.now.tools.draw) (g.D.Door.state c.args.desk.now.door)), refl)
