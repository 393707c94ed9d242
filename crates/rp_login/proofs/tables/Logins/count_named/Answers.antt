use Rattle.std.proofs.Common.{ℕ, List, length, sym, ◌∙◌, ap}
use Rattle.sso_base.specs.Rows.{live_rows}
use Rattle.oidc_words.specs.Lives.{visit_life}
use Rattle.rp_login.specs.declared.rows.SessionRow.{SessionRow}
use Rattle.rp_login.specs.Rows.{visit_begun}
use Rattle.rp_login.proofs.NamedEnds.{all_meant}
use Rattle.rp_login.proofs.tables.Logins.count_named.Goals as goal

pub returns-in-None-None : goal.returns-in-None-None
returns-in-None-None c =
    let L : List SessionRow → ℕ = λ visits. length visits in
    rw (c.in-None-None.is-0, c.in-None-None.is-1, ← c.self.view_is)
    (c.count_all_live.ensures ∙ sym (ap L (all_meant (live_rows visit_life visit_begun c.args.at c.self.inside.visits.rows))))
