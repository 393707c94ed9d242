use Rattle.std.proofs.Common.{ap, subst, ◌∙◌, length}
use Rattle.core_stack.proofs.Merging.{merged_length}
use Rattle.signout_answer.specs.Around.{around, own_pair}
use Rattle.signout_answer.specs.Answering.{IsLegalSignout}
use Rattle.rp_signout.specs.Keeps.{Signing}
use Rattle.rp_signout.proofs.step.SignoutCoreCore.count.Goals as goal

pub returns-clause-count : goal.returns-clause-count
returns-clause-count g c =
    c.count.ensures ∙ merged_length around own_pair c.self.inside.kept.kept (g.P.Core.history c.self.inside.inner) c.self.invariant.count ∙ ap (λ x. length x.history) c.self.view_is

pub returns-clause-legal : goal.returns-clause-legal
returns-clause-legal g c =
    let L = λ (v : Signing g.row.P.Denot g.row.P-Ask.Denot g.row.P-Reply.Denot). IsLegalSignout g.P.Provides.plain_ask g.P.Provides.IsAsk g.P.Core.weighs g.P.Core.most g.P.Core.is_legal (record { own = v.setup; inner = g.P.Core.setup v.inner }) v.history in
    subst L c.self.view_is c.self.invariant.legal
