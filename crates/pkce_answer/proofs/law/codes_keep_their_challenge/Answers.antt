use Rattle.pkce_answer.proofs.Histories.{asked_in}
use Rattle.pkce_answer.proofs.law.codes_keep_their_challenge.Goals as goal

pub returns : goal.returns
returns g c = λ k h at w code is held.
    asked_in g.P.Provides.plain_ask g.P.Provides.op_reply g.P.Provides.given_reply g.P.Provides.IsAsk g.P.Provides.provided g.met.P.Provides.begins k h at w code is held
