use Rattle.std.proofs.Common.{sym, ◌∙◌}
use Rattle.sso_base.specs.Rows.{lives}
use Rattle.held_rows.specs.Index.{stored_rows}
use Rattle.held_rows.proofs.Hits.{any_of_both}
use Rattle.held_rows.proofs.held.Held.any_live.Goals as goal

pub returns : goal.returns
returns g c =
    let both = any_of_both (λ row. lives g.R.Row.LIFE (g.R.Row.begun row) c.args.at) (g.T.Test.passes c.args.test.now) (stored_rows c.self.inside.stored) in
    rw (← c.self.view_is) (c.is_some.ensures ∙ c.passing.ensures.any ∙ sym both)
