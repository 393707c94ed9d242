use Rattle.std.proofs.Common.{refl}
use Rattle.turn_store.specs.Places.{before_last}
use Rattle.turn_store.specs.Passes.{front_of}
use Rattle.serving.proofs.Making.{stepped, made, first_drawn}
use Rattle.serving.proofs.step.step.Goals as goal

-- src/step.rt:39:1
pub returns-in-Ok-clause-made : goal.returns-in-Ok-clause-made
returns-in-Ok-clause-made g c =
    let given = c.in-Ok.ensures in (
      stepped (before_last (front_of c.call.new.pass)) c.now-at.result c.draw_four-fresh.result c.args.ask c.in-Ok.placed.reply,
      made c.args.pass.now c.call.new.pass c.now-at.result c.draw_four-fresh.result c.args.ask c.in-Ok.placed.reply c.in-Ok.placed.place given.front given.entry given.place given.calls,
      refl,
      refl,
      record { moment = c.now-at.ensures.told; fresh = first_drawn (g.W.Draw.ahead c.args.draw.now) c.draw_four-fresh.result c.draw_four-fresh.ensures.told },
    )
