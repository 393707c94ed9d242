use Rattle.std.proofs.Common.{◌≡◌, ◌++◌, ◌∷◌, [], ap, sym, subst, reverse, None}
use Rattle.std.specs.Result.{IfOk}
use Rattle.sso_base.specs.Legal.{IsEntry}
use Rattle.refresh_answer.specs.declared.asks.RefreshAsk.{RefreshAsk}
use Rattle.refresh_answer.specs.Around.{outer_weight, IsRefreshAsk}
use Rattle.refresh_answer.specs.Answering.{own_reply, IsLegalRefresh}
use Rattle.refresh_book.specs.Keeps.{Refreshing, is_refresh_ask}
use Rattle.refresh_book.specs.Beginning.{IsPending}
use Rattle.refresh_book.proofs.Committing.{refresh_is_own}
use Rattle.refresh_book.proofs.refresh_core.RefreshCore.pass.Goals as goal

pub unreachable-requires : goal.unreachable-requires
unreachable-requires g c =
    let Q = λ (a : RefreshAsk g.row.P-Ask.Denot). is_refresh_ask a in
    refresh_is_own g.P.Provides.plain_ask g.P.Provides.given_reply g.P.Provides.provided c.args.self.now.registry (reverse c.args.self.now.history) c.args.entry.at c.args.entry.fresh c.args.entry.ask
    (ap Q c.in-Refresh.is) c.requires.passes

pub pass_known-requires-clause-pending : goal.pass_known-requires-clause-pending
pass_known-requires-clause-pending g c =
    let Q = λ (a : RefreshAsk g.row.P-Ask.Denot).
    IsPending g.P.Provides.plain_ask g.P.Provides.given_reply g.P.Provides.provided c.args.self.now.registry (reverse c.args.self.now.history) c.args.entry.at a c.in_ok-pending.pending in
    subst Q c.in-Through.is c.in_ok-pending.ensures

pub pass_known-requires-clause-passes : goal.pass_known-requires-clause-passes
pass_known-requires-clause-passes g c =
    let Q = λ (a : RefreshAsk g.row.P-Ask.Denot).
    own_reply g.P.Provides.plain_ask g.P.Provides.given_reply g.P.Provides.provided c.args.self.now.registry (reverse c.args.self.now.history) c.args.entry.at c.args.entry.fresh a ≡ None in
    subst Q c.in-Through.is c.requires.passes

pub pass_known-requires-clause-values : goal.pass_known-requires-clause-values
pass_known-requires-clause-values g c =
    let Q = λ (a : RefreshAsk g.row.P-Ask.Denot). IsEntry (IsRefreshAsk g.P.Provides.IsAsk) (record { at = c.args.entry.at; fresh = c.args.entry.fresh; ask = a }) in
    subst Q c.in-Through.is c.requires.values

pub pass_known-requires-clause-weight : goal.pass_known-requires-clause-weight
pass_known-requires-clause-weight g c =
    let Q = λ (a : RefreshAsk g.row.P-Ask.Denot). c.args.weight ≡ outer_weight g.P.Core.weighs a in
    subst Q c.in-Through.is c.requires.weight

pub returns-clause-history : goal.returns-clause-history
returns-clause-history g c =
    let Q = λ (a : RefreshAsk g.row.P-Ask.Denot).
    IfOk c.pass_known.result (λ r. c.pass_known.new.self.history ≡ c.args.self.now.history ++ (record { entry = record { at = c.args.entry.at; fresh = c.args.entry.fresh; ask = a }; reply = r }) ∷ []) in
    subst Q (sym c.in-Through.is) c.pass_known.ensures.history

pub returns-in_err-pending-clause-legal : goal.returns-in_err-pending-clause-legal
returns-in_err-pending-clause-legal g c =
    let L = λ (x : Refreshing g.row.P.Denot g.row.P-Ask.Denot g.row.P-Reply.Denot).
    IsLegalRefresh g.P.Provides.plain_ask g.P.Provides.given_reply g.P.Provides.provided g.P.Provides.IsAsk g.P.Core.weighs g.P.Core.most g.P.Core.is_legal (record { inner = g.P.Core.setup x.inner; registry = x.registry }) x.history in
    subst L c.self.view_is c.self.invariant.1.legal
