use Rattle.std.proofs.Common.{[], refl, sym, subst, arith}
use Rattle.std.proofs.lemmas.Result.{err_from_is_err_and}
use Rattle.turn_store.specs.Passes.{front_of, setup_of}
use Rattle.serving.specs.Serving.{IsAsked}
use Rattle.serving.proofs.Doing.{did_calls, did_no_step, did_one_step, did_both, calls_alone, no_step, one_step, with_work}
use Rattle.serving.proofs.Calls.{took_none}
use Rattle.serving.proofs.Asking.{cause_unread, cause_refused}
use Rattle.serving.proofs.Rounds.{is_run, is_cause}
use Rattle.serving.proofs.serve_one.reply_to.Goals as goal

-- src/serve_one.rt:165:15
pub returns-in_err-ask-clause-replied : goal.returns-in_err-ask-clause-replied
returns-in_err-ask-clause-replied g c =
    let p = err_from_is_err_and c.from_residual.result c.from_residual.ensures.1 in (
      calls_alone [],
      did_calls c.args.pass.now (g.L.Link.state c.args.tools.now.link) (g.L.Link.state c.args.tools.now.link) (g.C.Clock.ahead c.args.tools.now.clock) (g.W.Draw.ahead c.args.tools.now.draw) [] (took_none (g.L.Link.state c.args.tools.now.link)),
      refl,
      rw (p.1, p.2) (cause_unread (g.X.Role.manner c.args.backend.now.role.now) (g.X.Core.Core.most (setup_of g.X.Core.Core.setup c.args.backend.now.store.now)) (g.S.Source.left c.args.source.now) (g.S.Source.left c.asked.new.source) (g.S.Source.faults c.args.source.now) (g.S.Source.faults c.asked.new.source) (front_of c.args.pass.now) c.in_err-ask.field-0.0 c.in_err-ask.ensures.err),
      c.requires.places,
    )

-- src/serve_one.rt:166:17
pub returns-in_err-first-clause-replied : goal.returns-in_err-first-clause-replied
returns-in_err-first-clause-replied g c =
    let laws = g.met.X.Role g.world.𝓛 g.world.𝓜 g.world.𝓡 ((λ s x. x), (λ x. x), (λ x. x), λ x. x) in
    let p = err_from_is_err_and c.from_residual-in_err-first.result c.from_residual-in_err-first.ensures.1 in
    let end = c.in_err-first.ensures in (
      no_step [],
      did_no_step c.args.pass.now c.step.new.pass (g.L.Link.state c.args.tools.now.link) (g.L.Link.state c.args.tools.now.link) (g.C.Clock.ahead c.args.tools.now.clock) (g.C.Clock.ahead c.step.new.clock) (g.W.Draw.ahead c.args.tools.now.draw) (g.W.Draw.ahead c.step.new.draw) [] (took_none (g.L.Link.state c.args.tools.now.link)) end.later end.refused end.clock end.draw,
      refl,
      rw (p.1, p.2) (cause_refused (g.X.Role.manner c.args.backend.now.role.now) g.X.Core.Core.weighs (g.X.Core.Core.most (setup_of g.X.Core.Core.setup c.args.backend.now.store.now)) (g.S.Source.left c.args.source.now) (g.S.Source.left c.asked.new.source) (g.S.Source.faults c.args.source.now) (g.S.Source.faults c.asked.new.source) (front_of c.step.new.pass) c.in_ok-ask.ask c.in_err-first.field-0.0 (laws.same_weights c.args.backend.now.role.now) c.in_ok-ask.ensures.ok end.why),
      c.requires.places,
    )

-- src/serve_one.rt:144:1
pub returns-clause-replied : goal.returns-clause-replied
returns-clause-replied g c =
    let end = c.in_ok-first.ensures in
    let s = end.made.0 in
    let rest = c.last_reply.ensures.followed in
    let asked : IsAsked (g.X.Role.manner c.args.backend.now.role.now) (g.S.Source.left c.args.source.now) (g.S.Source.left c.asked.new.source) s.asked
    = subst (λ (a : g.row.X-Core-Ask.Denot). IsAsked (g.X.Role.manner c.args.backend.now.role.now) (g.S.Source.left c.args.source.now) (g.S.Source.left c.asked.new.source) a) (sym end.made.2) c.in_ok-ask.ensures.ok in (
      with_work (one_step [] s) rest.0,
      did_both c.args.pass.now c.step.new.pass c.last_reply.new.pass (g.L.Link.state c.args.tools.now.link) (g.L.Link.state c.args.tools.now.link) (g.L.Link.state c.last_reply.new.tools.link) (g.C.Clock.ahead c.args.tools.now.clock) (g.C.Clock.ahead c.step.new.clock) (g.C.Clock.ahead c.last_reply.new.tools.clock) (g.W.Draw.ahead c.args.tools.now.draw) (g.W.Draw.ahead c.step.new.draw) (g.W.Draw.ahead c.last_reply.new.tools.draw) (one_step [] s) rest.0
          (did_one_step c.args.pass.now c.step.new.pass (g.L.Link.state c.args.tools.now.link) (g.L.Link.state c.args.tools.now.link) (g.C.Clock.ahead c.args.tools.now.clock) (g.C.Clock.ahead c.step.new.clock) (g.W.Draw.ahead c.args.tools.now.draw) (g.W.Draw.ahead c.step.new.draw) [] s (took_none (g.L.Link.state c.args.tools.now.link)) end.made.1 end.made.4 end.clock end.draw)
          refl
          rest.1,
      is_run (g.X.Role.manner c.args.backend.now.role.now) (g.X.Core.Core.most (setup_of g.X.Core.Core.setup c.args.backend.now.store.now)) (g.S.Source.left c.args.source.now) (g.S.Source.left c.asked.new.source) (front_of c.last_reply.new.pass) s c.in_ok-first.first rest.0.steps rest.0.calls c.last_reply.result asked end.made.3 rest.2,
      is_cause (g.X.Role.manner c.args.backend.now.role.now) (g.X.Core.Core.most (setup_of g.X.Core.Core.setup c.args.backend.now.store.now)) (g.S.Source.left c.args.source.now) (g.S.Source.left c.asked.new.source) (g.S.Source.faults c.args.source.now) (g.S.Source.faults c.asked.new.source) (front_of c.last_reply.new.pass) s c.in_ok-first.first rest.0.steps rest.0.calls c.last_reply.result asked end.made.3 rest.2,
      (let a = c.requires.places in let b = rest.3 in omega arith),
    )
