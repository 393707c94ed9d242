use Rattle.std.proofs.Common.{◌≡◌, [], ◌++◌, length, refl, subst, ◌∙◌, arith}
use Rattle.std.proofs.lemmas.List.{length-append}
use Rattle.turn_store.specs.Passes.{front_of, setup_of}
use Rattle.serving.specs.Working.{IsNumber}
use Rattle.serving.proofs.Workers.{at_desk_none, at_desk_both, made_none, steps_both}
use Rattle.serving.proofs.work.serve_desk.Goals as goal

pub loop-served-init : goal.loop-served-init
loop-served-init g c = (
  c.requires.pass,
  refl,
  refl,
  refl,
  omega arith,
  omega arith,
  ([], made_none c.args.pass.now, at_desk_none (g.X.Role.manner c.args.backend.now.role.now) (g.X.Core.Core.most (setup_of g.X.Core.Core.setup c.args.backend.now.store.now)) g.D.Source.Source.left g.D.Source.Source.faults g.D.Sink.Sink.taken g.D.Sink.Sink.faults (front_of c.args.pass.now) (g.L.Link.state c.args.desk.now.tools.link) (g.C.Clock.ahead c.args.desk.now.tools.clock) (g.W.Draw.ahead c.args.desk.now.tools.draw) (g.D.Door.state c.args.desk.now.door), refl),
)

pub returns-in-Closed-clause-worked : goal.returns-in-Closed-clause-worked
returns-in-Closed-clause-worked g c =
    let so = c.loop-served.invariant.6 in let now = c.serve_next.ensures.worked in
    let count : length now.0 ≡ 0 = subst (λ next. IsNumber next (length now.0)) c.in-Closed.is now.3 in (
      so.0 ++ now.0,
      steps_both c.args.pass.now c.loop-served.pass c.serve_next.new.pass so.0 now.0 so.1 now.1,
      at_desk_both (g.X.Role.manner c.args.backend.now.role.now) (g.X.Core.Core.most (setup_of g.X.Core.Core.setup c.args.backend.now.store.now)) g.D.Source.Source.left g.D.Source.Source.faults g.D.Sink.Sink.taken g.D.Sink.Sink.faults (g.L.Link.state c.args.desk.now.tools.link) (g.L.Link.state c.loop-served.desk.tools.link) (g.L.Link.state c.serve_next.new.desk.tools.link) (g.C.Clock.ahead c.args.desk.now.tools.clock) (g.C.Clock.ahead c.loop-served.desk.tools.clock) (g.C.Clock.ahead c.serve_next.new.desk.tools.clock) (g.W.Draw.ahead c.args.desk.now.tools.draw) (g.W.Draw.ahead c.loop-served.desk.tools.draw) (g.W.Draw.ahead c.serve_next.new.desk.tools.draw)
          (front_of c.loop-served.pass) (front_of c.serve_next.new.pass) (g.D.Door.state c.args.desk.now.door) (g.D.Door.state c.loop-served.desk.door) (g.D.Door.state c.serve_next.new.desk.door) so.0 now.0 now.1.later so.2 now.2,
      (let long = length-append so.0 now.0 in let n = so.3 in omega arith),
    )

pub returns-in-Fault-clause-worked : goal.returns-in-Fault-clause-worked
returns-in-Fault-clause-worked g c =
    let so = c.loop-served.invariant.6 in let now = c.serve_next.ensures.worked in
    let count : length now.0 ≡ 0 = subst (λ next. IsNumber next (length now.0)) c.in-Fault.is now.3 in (
      so.0 ++ now.0,
      steps_both c.args.pass.now c.loop-served.pass c.serve_next.new.pass so.0 now.0 so.1 now.1,
      at_desk_both (g.X.Role.manner c.args.backend.now.role.now) (g.X.Core.Core.most (setup_of g.X.Core.Core.setup c.args.backend.now.store.now)) g.D.Source.Source.left g.D.Source.Source.faults g.D.Sink.Sink.taken g.D.Sink.Sink.faults (g.L.Link.state c.args.desk.now.tools.link) (g.L.Link.state c.loop-served.desk.tools.link) (g.L.Link.state c.serve_next.new.desk.tools.link) (g.C.Clock.ahead c.args.desk.now.tools.clock) (g.C.Clock.ahead c.loop-served.desk.tools.clock) (g.C.Clock.ahead c.serve_next.new.desk.tools.clock) (g.W.Draw.ahead c.args.desk.now.tools.draw) (g.W.Draw.ahead c.loop-served.desk.tools.draw) (g.W.Draw.ahead c.serve_next.new.desk.tools.draw)
          (front_of c.loop-served.pass) (front_of c.serve_next.new.pass) (g.D.Door.state c.args.desk.now.door) (g.D.Door.state c.loop-served.desk.door) (g.D.Door.state c.serve_next.new.desk.door) so.0 now.0 now.1.later so.2 now.2,
      (let long = length-append so.0 now.0 in let n = so.3 in omega arith),
    )

pub loop-served-preserved : goal.loop-served-preserved
loop-served-preserved g c =
    let so = c.loop-served.invariant.6 in let now = c.serve_next.ensures.worked in
    let count : length now.0 ≡ 1 = subst (λ next. IsNumber next (length now.0)) c.in-Served.is now.3 in
    let i = c.loop-served.invariant in let e = c.serve_next.ensures in (
      e.pass,
      e.number ∙ i.1,
      e.turns ∙ i.2,
      e.place ∙ i.3,
      (let a = i.4 in let b = e.closings in omega arith),
      (let a = i.5 in let b = e.faults in omega arith),
      (
        so.0 ++ now.0,
        steps_both c.args.pass.now c.loop-served.pass c.serve_next.new.pass so.0 now.0 so.1 now.1,
        at_desk_both (g.X.Role.manner c.args.backend.now.role.now) (g.X.Core.Core.most (setup_of g.X.Core.Core.setup c.args.backend.now.store.now)) g.D.Source.Source.left g.D.Source.Source.faults g.D.Sink.Sink.taken g.D.Sink.Sink.faults (g.L.Link.state c.args.desk.now.tools.link) (g.L.Link.state c.loop-served.desk.tools.link) (g.L.Link.state c.serve_next.new.desk.tools.link) (g.C.Clock.ahead c.args.desk.now.tools.clock) (g.C.Clock.ahead c.loop-served.desk.tools.clock) (g.C.Clock.ahead c.serve_next.new.desk.tools.clock) (g.W.Draw.ahead c.args.desk.now.tools.draw) (g.W.Draw.ahead c.loop-served.desk.tools.draw) (g.W.Draw.ahead c.serve_next.new.desk.tools.draw)
            (front_of c.loop-served.pass) (front_of c.serve_next.new.pass) (g.D.Door.state c.args.desk.now.door) (g.D.Door.state c.loop-served.desk.door) (g.D.Door.state c.serve_next.new.desk.door) so.0 now.0 now.1.later so.2 now.2,
        (let long = length-append so.0 now.0 in let n = so.3 in omega arith),
      ),
    )
