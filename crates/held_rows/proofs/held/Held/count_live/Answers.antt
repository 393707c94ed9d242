use Rattle.std.proofs.Common.{length, ap, sym, ◌∙◌}
use Rattle.sso_base.specs.Rows.{lives}
use Rattle.held_rows.specs.Index.{stored_rows}
use Rattle.held_rows.proofs.Hits.{both_filtered}
use Rattle.held_rows.proofs.held.Held.count_live.Goals as goal

pub returns : goal.returns
returns g c =
    let both = both_filtered (λ row. lives g.R.Row.LIFE (g.R.Row.begun row) c.args.at) (g.T.Test.passes c.args.test.now) (stored_rows c.self.inside.stored) in
    rw (← c.self.view_is) (c.count.ensures ∙ sym (ap length both))
