use Rattle.std.proofs.Common.{reverse, [], Some, true}
use Rattle.sso_base.proofs.Histories.{past_more}
use Rattle.signout_answer.specs.Around.{inner_history}
use Rattle.signout_answer.proofs.Yes.{said_yes}
use Rattle.signout_answer.proofs.SignOuts.{gone_signs_out}
use Rattle.signout_answer.proofs.law.messages_are_those_of_a_sign_out.Goals as goal

pub returns : goal.returns
returns g c = λ x own h p back r legal told.
    let laws = g.met.P.Provides in
    let s = g.P.Core.setup x in
    let said = said_yes own g.P.Provides.plain_ask g.P.Provides.IsAsk _ (reverse h) [] p back r legal.answered (past_more h p) told in (
      said,
      gone_signs_out g.P.Provides.plain_ask g.P.Provides.given_reply g.P.Provides.notices g.P.Provides.IsAsk g.P.Core.weighs g.P.Core.most g.P.Core.is_legal g.P.Provides.provided
          (g.P.Provides.provider_registry x) (record { own = own; inner = s }) h p
          (λ q inside. laws.adds_what_it_gives s (inner_history h) q inside) (λ q w inside asked. laws.signs_out s (inner_history h) q w inside asked) (λ l inside. laws.is_provider x l inside)
          back r said.session (Some said.word) true said.inner legal told said.asked said.signs_out,
    )
