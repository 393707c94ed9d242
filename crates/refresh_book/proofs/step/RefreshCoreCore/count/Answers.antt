use Rattle.std.proofs.Common.{ap, ◌∙◌, subst, length}
use Rattle.core_stack.proofs.Merging.{merged_length}
use Rattle.refresh_answer.specs.Around.{around, own_pair}
use Rattle.refresh_answer.specs.Answering.{IsLegalRefresh}
use Rattle.refresh_book.specs.Keeps.{Refreshing}
use Rattle.refresh_book.proofs.step.RefreshCoreCore.count.Goals as goal

pub returns-clause-count : goal.returns-clause-count
returns-clause-count g c =
    c.count.ensures ∙ merged_length around own_pair c.self.inside.kept.kept (g.P.Core.history c.self.inside.inner) c.self.invariant.1.count ∙ ap (λ x. length x.history) c.self.view_is

pub returns-clause-legal : goal.returns-clause-legal
returns-clause-legal g c =
    let L = λ (x : Refreshing g.row.P.Denot g.row.P-Ask.Denot g.row.P-Reply.Denot).
    IsLegalRefresh g.P.Provides.plain_ask g.P.Provides.given_reply g.P.Provides.provided g.P.Provides.IsAsk g.P.Core.weighs g.P.Core.most g.P.Core.is_legal (record { inner = g.P.Core.setup x.inner; registry = x.registry }) x.history in
    subst L c.self.view_is c.self.invariant.1.legal
