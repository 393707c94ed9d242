use Rattle.std.proofs.Common.{subst}
use Rattle.refresh_answer.specs.Answering.{IsLegalRefresh}
use Rattle.refresh_book.specs.Keeps.{Refreshing}
use Rattle.refresh_book.proofs.refresh_core.RefreshCore.admit.Goals as goal

pub returns-in_err-weight-clause-legal : goal.returns-in_err-weight-clause-legal
returns-in_err-weight-clause-legal g c =
    let L = λ (x : Refreshing g.row.P.Denot g.row.P-Ask.Denot g.row.P-Reply.Denot).
    IsLegalRefresh g.P.Provides.plain_ask g.P.Provides.given_reply g.P.Provides.provided g.P.Provides.IsAsk g.P.Core.weighs g.P.Core.most g.P.Core.is_legal (record { inner = g.P.Core.setup x.inner; registry = x.registry }) x.history in
    subst L c.self.view_is c.self.invariant.1.legal

pub returns-in_err-room_for-clause-legal : goal.returns-in_err-room_for-clause-legal
returns-in_err-room_for-clause-legal g c =
    let L = λ (x : Refreshing g.row.P.Denot g.row.P-Ask.Denot g.row.P-Reply.Denot).
    IsLegalRefresh g.P.Provides.plain_ask g.P.Provides.given_reply g.P.Provides.provided g.P.Provides.IsAsk g.P.Core.weighs g.P.Core.most g.P.Core.is_legal (record { inner = g.P.Core.setup x.inner; registry = x.registry }) x.history in
    subst L c.self.view_is c.self.invariant.1.legal

pub returns-clause-legal : goal.returns-clause-legal
returns-clause-legal g c =
    let L = λ (x : Refreshing g.row.P.Denot g.row.P-Ask.Denot g.row.P-Reply.Denot).
    IsLegalRefresh g.P.Provides.plain_ask g.P.Provides.given_reply g.P.Provides.provided g.P.Provides.IsAsk g.P.Core.weighs g.P.Core.most g.P.Core.is_legal (record { inner = g.P.Core.setup x.inner; registry = x.registry }) x.history in
    subst L c.self.view_is c.self.invariant.1.legal
