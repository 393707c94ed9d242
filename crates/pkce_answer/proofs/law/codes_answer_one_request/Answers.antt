use Rattle.pkce_answer.proofs.Histories.{one_in}
use Rattle.pkce_answer.proofs.law.codes_answer_one_request.Goals as goal

pub returns : goal.returns
returns g c = λ k h w one other wish wanted is new a b.
    one_in g.P.Provides.plain_ask g.P.Provides.op_reply g.P.Provides.given_reply g.P.Provides.IsAsk g.P.Provides.provided g.met.P.Provides.begins k h w one other wish wanted is new a b
