use Rattle.std.proofs.Common.{reverse}
use Rattle.pkce_answer.specs.Around.{inner_history}
use Rattle.pkce_answer.proofs.Redeeming.{only_verifier}
use Rattle.pkce_answer.proofs.Histories.{redeemed_in}
use Rattle.pkce_answer.proofs.law.codes_need_their_verifier.Goals as goal

pub returns-clause-redeemed : goal.returns-clause-redeemed
returns-clause-redeemed g c = λ k h p grant access id is asked said.
    redeemed_in g.P.Provides.plain_ask g.P.Provides.op_reply g.P.Provides.given_reply g.P.Provides.IsAsk g.P.Provides.provided g.met.P.Provides.begins k h p grant access id is asked said

pub returns-clause-text : goal.returns-clause-text
returns-clause-text g c = λ k h p grant access id text is asked said challenged alone.
    only_verifier g.P.Provides.plain_ask g.P.Provides.given_reply (reverse h) (g.P.Provides.provided (inner_history h)) p grant text
    (redeemed_in g.P.Provides.plain_ask g.P.Provides.op_reply g.P.Provides.given_reply g.P.Provides.IsAsk g.P.Provides.provided g.met.P.Provides.begins k h p grant access id is asked said)
    challenged alone
