use Rattle.std.proofs.lemmas.Result.{err_from_is_err_and}
use Rattle.turn_store.specs.Passes.{front_of, setup_of}
use Rattle.serving.proofs.Doing.{did_both, with_work, places_both}
use Rattle.serving.proofs.Rounds.{failed_round, both_rounds}
use Rattle.serving.proofs.serve_one.last_reply.Goals as goal

-- src/serve_one.rt:135:18
pub returns-in_err-second-clause-followed : goal.returns-in_err-second-clause-followed
returns-in_err-second-clause-followed g c =
    let p = err_from_is_err_and c.from_residual.result c.from_residual.ensures.1 in
    let first = c.in_err-second.ensures.followed in (
      first.0,
      first.1,
      rw (p.1, p.2) (failed_round (g.X.Role.manner c.args.backend.now.role.now) (g.X.Core.Core.most (setup_of g.X.Core.Core.setup c.args.backend.now.store.now)) g.X.Role.rounds (front_of c.follow.new.pass) c.args.reply first.0 c.in_err-second.field-0.0 first.2),
      first.3,
    )

-- src/serve_one.rt:115:1
pub returns-clause-followed : goal.returns-clause-followed
returns-clause-followed g c =
    let laws = g.met.X.Role g.world.𝓛 g.world.𝓜 g.world.𝓡 ((λ s x. x), (λ x. x), (λ x. x), λ x. x) in
    let first = c.in_ok-second.ensures.followed in
    let second = c.follow-2.ensures.followed in (
      with_work first.0 second.0,
      did_both c.args.pass.now c.follow.new.pass c.follow-2.new.pass (g.L.Link.state c.args.tools.now.link) (g.L.Link.state c.follow.new.tools.link) (g.L.Link.state c.follow-2.new.tools.link) (g.C.Clock.ahead c.args.tools.now.clock) (g.C.Clock.ahead c.follow.new.tools.clock) (g.C.Clock.ahead c.follow-2.new.tools.clock) (g.W.Draw.ahead c.args.tools.now.draw) (g.W.Draw.ahead c.follow.new.tools.draw) (g.W.Draw.ahead c.follow-2.new.tools.draw) first.0 second.0 first.1 first.2.1 second.1,
      both_rounds (g.X.Role.manner c.args.backend.now.role.now) (g.X.Core.Core.most (setup_of g.X.Core.Core.setup c.args.backend.now.store.now)) g.X.Role.rounds (laws.few_rounds c.args.backend.now.role.now) (front_of c.follow-2.new.pass) (front_of c.follow.new.pass) c.args.reply c.in_ok-second.second first.0 second.0 c.follow-2.result first.2 second.2,
      places_both c.args.places.now c.follow.new.places c.follow-2.new.places first.0 second.0 first.3 second.3,
    )
