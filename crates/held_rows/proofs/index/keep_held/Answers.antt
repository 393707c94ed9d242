use Rattle.std.proofs.Common.{rules}
use Rattle.std.proofs.lemmas.Fn.{filter_same}
use Rattle.held_rows.specs.Index.{has_row}
use Rattle.held_rows.proofs.index.keep_held.Goals as goal

pub returns-clause-items : goal.returns-clause-items
returns-clause-items g c = filter_same _ (has_row c.args.slots.now) _ (λ x b f' k. search rules) _ _ c.retain.ensures.filtered
