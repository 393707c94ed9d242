use Rattle.std.proofs.Common.{rules, ◌∙◌}
use Rattle.std.proofs.lemmas.Fn.{filter_same}
use Rattle.sso_base.proofs.Removing.{filter-without}
use Rattle.sso_base.proofs.rows.remove_row.Goals as goal

pub returns-clause-rows : goal.returns-clause-rows
returns-clause-rows g c =
    filter_same _ _ _ (λ x b f' k. search rules) _ _ c.retain.ensures.filtered ∙ filter-without g.R.Named.name c.args.word c.args.rows.now.items
