use Rattle.std.proofs.Common.{◌≡◌, ap, ◌∙◌, subst, reverse, Option, IfOk}
use Rattle.op_exchange.specs.declared.ask.OpAsk.{OpAsk}
use Rattle.signout_answer.specs.declared.asks.EndSetup.{EndSetup}
use Rattle.signout_answer.specs.declared.parts.Doing.{Doing}
use Rattle.signout_answer.specs.Answering.{is_sign_out, confirm_doing, asked_question}
use Rattle.rp_signout.specs.Keeps.{confirmed_doing}
use Rattle.rp_signout.proofs.Looking.{answer_looked_up}
use Rattle.rp_signout.proofs.signout_core.SignoutCore.confirm.Goals as goal

pub returns : goal.returns
returns g c =
    let inside = c.self.inside in
    let signs : c.is_sign_out-signs.result ≡ is_sign_out c.args.session.now (g.P.Provides.plain_ask c.args.inner.now) =
    c.is_sign_out-signs.ensures ∙ ap (λ (o : Option OpAsk). is_sign_out c.args.session.now o) c.plain.ensures in
    let E = λ (e : EndSetup). confirm_doing (asked_question e g.P.Provides.plain_ask (reverse c.args.self.now.history) c.args.at c.args.word c.args.session.now c.args.inner.now) c.args.agree in
    let R = λ (x : Doing). IfOk c.confirmed_in.result (λ d. confirmed_doing d ≡ x) in
    subst R
    (answer_looked_up g.P.Provides.plain_ask g.P.Provides.IsAsk g.P.Core.weighs g.P.Core.most g.P.Core.is_legal (record { own = inside.setup; inner = g.P.Core.setup inside.inner }) (g.P.Core.history inside.inner)
    inside.kept.kept inside.kept.weight inside.kept.last inside.kept.most inside.questions.rows c.self.invariant c.args.self.now.history (ap (λ x. x.history) c.self.view_is)
    c.args.at c.requires c.args.word c.in-Some.word c.in-Some.is c.confirmed_in.ensures.held.distinct c.args.session.now c.args.inner.now c.is_sign_out-signs.result signs c.args.agree
    ∙ ap E (ap (λ x. x.setup) c.self.view_is))
    c.confirmed_in.ensures.doing
