use Rattle.std.proofs.Common.{subst}
use Rattle.signout_answer.specs.Answering.{IsLegalSignout}
use Rattle.rp_signout.specs.Keeps.{Signing}
use Rattle.rp_signout.proofs.signout_core.SignoutCore.admit.Goals as goal

pub returns-in_err-weight-clause-legal : goal.returns-in_err-weight-clause-legal
returns-in_err-weight-clause-legal g c =
    let L = λ (v : Signing g.row.P.Denot g.row.P-Ask.Denot g.row.P-Reply.Denot). IsLegalSignout g.P.Provides.plain_ask g.P.Provides.IsAsk g.P.Core.weighs g.P.Core.most g.P.Core.is_legal (record { own = v.setup; inner = g.P.Core.setup v.inner }) v.history in
    subst L c.self.view_is c.self.invariant.legal

pub returns-in_err-room_for-clause-legal : goal.returns-in_err-room_for-clause-legal
returns-in_err-room_for-clause-legal g c =
    let L = λ (v : Signing g.row.P.Denot g.row.P-Ask.Denot g.row.P-Reply.Denot). IsLegalSignout g.P.Provides.plain_ask g.P.Provides.IsAsk g.P.Core.weighs g.P.Core.most g.P.Core.is_legal (record { own = v.setup; inner = g.P.Core.setup v.inner }) v.history in
    subst L c.self.view_is c.self.invariant.legal

pub returns-clause-legal : goal.returns-clause-legal
returns-clause-legal g c =
    let L = λ (v : Signing g.row.P.Denot g.row.P-Ask.Denot g.row.P-Reply.Denot). IsLegalSignout g.P.Provides.plain_ask g.P.Provides.IsAsk g.P.Core.weighs g.P.Core.most g.P.Core.is_legal (record { own = v.setup; inner = g.P.Core.setup v.inner }) v.history in
    subst L c.self.view_is c.self.invariant.legal
