use Rattle.std.proofs.Common.{rules}
use Rattle.std.specs.Str.{bytes_eq}
use Rattle.configuration_rows.proofs.Lists.{position_next}
use Rattle.client_registry.proofs.subjects.text_place.Goals as goal

pub loop-place-preserved : goal.loop-place-preserved
loop-place-preserved c =
    position_next (λ u. bytes_eq u c.args.text.now) c.args.texts.now c.loop-place.place c.at.result.now _ c.at.ensures (search rules) c.loop-place.invariant
