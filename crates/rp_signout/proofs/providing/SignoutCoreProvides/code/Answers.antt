use Rattle.std.proofs.Common.{◌≡◌, ◌≤◌, ap, sym, subst, ◌∙◌, List, reverse, Some}
use Rattle.sso_base.specs.Legal.{last_moment}
use Rattle.sso_base.specs.declared.history.Pair.{Pair}
use Rattle.op_answer.specs.Codes.{held_code}
use Rattle.signout_answer.specs.Around.{inner_history}
use Rattle.rp_signout.proofs.Looking.{inner_same}
use Rattle.rp_signout.proofs.providing.SignoutCoreProvides.code.Goals as goal

pub code-requires : goal.code-requires
code-requires g c =
    let same : g.P.Core.history c.self.inside.inner ≡ inner_history c.args.self.now.history =
    inner_same c.self.inside.kept.kept (g.P.Core.history c.self.inside.inner) c.args.self.now.history c.self.invariant.count (ap (λ x. x.history) c.self.view_is) in
    let L = λ (l : List (Pair g.row.P-Ask.Denot g.row.P-Reply.Denot)). last_moment (reverse (g.P.Provides.provided l)) ≤ c.args.at in
    subst L (sym same) c.requires

pub returns : goal.returns
returns g c =
    let same : g.P.Core.history c.self.inside.inner ≡ inner_history c.args.self.now.history =
    inner_same c.self.inside.kept.kept (g.P.Core.history c.self.inside.inner) c.args.self.now.history c.self.invariant.count (ap (λ x. x.history) c.self.view_is) in
    let C = λ (l : List (Pair g.row.P-Ask.Denot g.row.P-Reply.Denot)). held_code (reverse (g.P.Provides.provided l)) c.args.at (Some c.args.word) in
    c.code.ensures ∙ ap C same
