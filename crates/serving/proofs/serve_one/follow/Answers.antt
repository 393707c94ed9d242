use Rattle.std.proofs.Common.{[], sym, refl, inl, ◌∙◌, arith}
use Rattle.std.proofs.lemmas.Result.{err_from_is_err_and}
use Rattle.turn_store.specs.Passes.{front_of, setup_of}
use Rattle.serving.proofs.Doing.{did_calls, did_no_step, did_one_step, calls_alone, no_step, one_step}
use Rattle.serving.proofs.Calls.{took_none}
use Rattle.serving.proofs.Asking.{round_without_memory, round_unanswered, round_refused, round_made}
use Rattle.serving.proofs.serve_one.follow.Goals as goal

-- memory ran out before the question
pub returns-in_err-question-clause-followed : goal.returns-in_err-question-clause-followed
returns-in_err-question-clause-followed g c =
    let p = err_from_is_err_and c.from_residual.result c.from_residual.ensures.1 in (
      calls_alone [],
      did_calls c.args.pass.now (g.L.Link.state c.args.tools.now.link) (g.L.Link.state c.args.tools.now.link) (g.C.Clock.ahead c.args.tools.now.clock) (g.W.Draw.ahead c.args.tools.now.draw) [] (took_none (g.L.Link.state c.args.tools.now.link)),
      rw (p.1, p.2) (refl, round_without_memory (g.X.Role.manner c.args.backend.now.role.now) (g.X.Core.Core.most (setup_of g.X.Core.Core.setup c.args.backend.now.store.now)) (front_of c.args.pass.now) c.args.reply),
      omega arith,
    )

pub returns-in-None-clause-followed : goal.returns-in-None-clause-followed
returns-in-None-clause-followed g c = (
  calls_alone [],
  did_calls c.args.pass.now (g.L.Link.state c.args.tools.now.link) (g.L.Link.state c.args.tools.now.link) (g.C.Clock.ahead c.args.tools.now.clock) (g.W.Draw.ahead c.args.tools.now.draw) [] (took_none (g.L.Link.state c.args.tools.now.link)),
  (inl (refl, refl, refl, sym c.in_ok-question.ensures ∙ c.in-None.is), refl),
  omega arith,
)

pub returns-in_err-ask-in-Some-clause-followed : goal.returns-in_err-ask-in-Some-clause-followed
returns-in_err-ask-in-Some-clause-followed g c =
    let p = err_from_is_err_and c.from_residual-in_err-ask-in-Some.result c.from_residual-in_err-ask-in-Some.ensures.1 in
    let asked = c.in_err-ask-in-Some.ensures in (
      calls_alone asked.0,
      did_calls c.args.pass.now (g.L.Link.state c.args.tools.now.link) (g.L.Link.state c.asked_back.new.link) (g.C.Clock.ahead c.args.tools.now.clock) (g.W.Draw.ahead c.args.tools.now.draw) asked.0 asked.1,
      rw (p.1, p.2) (refl, round_unanswered (g.X.Role.manner c.args.backend.now.role.now) (g.X.Core.Core.most (setup_of g.X.Core.Core.setup c.args.backend.now.store.now)) (front_of c.args.pass.now) c.args.reply asked.0 c.in_err-ask-in-Some.field-0.0 asked.2),
      omega arith,
    )

pub returns-in_err-next-clause-followed : goal.returns-in_err-next-clause-followed
returns-in_err-next-clause-followed g c =
    let laws = g.met.X.Role g.world.𝓛 g.world.𝓜 g.world.𝓡 ((λ s x. x), (λ x. x), (λ x. x), λ x. x) in
    let p = err_from_is_err_and c.from_residual-in_err-next.result c.from_residual-in_err-next.ensures.1 in
    let asked = c.in_ok-ask-in-Some.ensures in
    let end = c.in_err-next.ensures in (
      no_step asked.0,
      did_no_step c.args.pass.now c.step.new.pass (g.L.Link.state c.args.tools.now.link) (g.L.Link.state c.asked_back.new.link) (g.C.Clock.ahead c.args.tools.now.clock) (g.C.Clock.ahead c.step.new.clock) (g.W.Draw.ahead c.args.tools.now.draw) (g.W.Draw.ahead c.step.new.draw) asked.0 asked.1 end.later end.refused end.clock end.draw,
      rw (p.1, p.2) (refl, round_refused (g.X.Role.manner c.args.backend.now.role.now) g.X.Core.Core.weighs (g.X.Core.Core.most (setup_of g.X.Core.Core.setup c.args.backend.now.store.now)) (front_of c.step.new.pass) c.args.reply asked.0 c.in_ok-ask-in-Some.ask c.in_err-next.field-0.0 (laws.same_weights c.args.backend.now.role.now) asked.2 end.why),
      omega arith,
    )

pub returns-clause-followed : goal.returns-clause-followed
returns-clause-followed g c =
    let laws = g.met.X.Role g.world.𝓛 g.world.𝓜 g.world.𝓡 ((λ s x. x), (λ x. x), (λ x. x), λ x. x) in
    let asked = c.in_ok-ask-in-Some.ensures in
    let end = c.in_ok-next.ensures in
    let s = end.made.0 in
    let setup = setup_of g.X.Core.Core.setup c.args.backend.now.store.now in (
      one_step asked.0 s,
      did_one_step c.args.pass.now c.step.new.pass (g.L.Link.state c.args.tools.now.link) (g.L.Link.state c.asked_back.new.link) (g.C.Clock.ahead c.args.tools.now.clock) (g.C.Clock.ahead c.step.new.clock) (g.W.Draw.ahead c.args.tools.now.draw) (g.W.Draw.ahead c.step.new.draw) asked.0 s asked.1 end.made.1 end.made.4 end.clock end.draw,
      (
        round_made (g.X.Role.manner c.args.backend.now.role.now) g.X.Role.rounds (g.X.Core.Core.is_legal setup) (laws.fewer_rounds c.args.backend.now.role.now setup) c.args.reply c.in_ok-next.next asked.0 c.in_ok-ask-in-Some.ask s (front_of c.step.new.pass) end.made.1.front end.pass.legal asked.2 end.made.2 end.made.3,
        refl,
      ),
      omega arith,
    )
