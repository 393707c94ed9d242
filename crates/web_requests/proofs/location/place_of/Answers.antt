use Rattle.std.proofs.Common.{sym, ◌∙◌}
use Rattle.std.specs.Str.{bytes_eq}
use Rattle.web_requests.proofs.Positions.{position_on, position_here}
use Rattle.web_requests.proofs.location.place_of.Goals as goal

pub returns-then-is_same : goal.returns-then-is_same
returns-then-is_same c =
    position_here (λ t. bytes_eq t c.args.text.now) c.args.texts.now c.loop-place.place c.at.result.now _ c.at.ensures c.loop-place.invariant (sym c.is_same.ensures ∙ c.if-is_same.true)

pub loop-place-preserved : goal.loop-place-preserved
loop-place-preserved c =
    position_on (λ t. bytes_eq t c.args.text.now) c.args.texts.now c.loop-place.place c.at.result.now _ c.at.ensures c.loop-place.invariant (sym c.is_same.ensures ∙ c.if-is_same.false)
