use Rattle.refresh_answer.proofs.Answered.{answered_of}
use Rattle.refresh_answer.proofs.Clients.{gets_by_its_client, left_by_others}
use Rattle.refresh_answer.proofs.law.tokens_stay_with_their_client.Goals as goal

pub returns-clause-client : goal.returns-clause-client
returns-clause-client g c = λ k past after before p access refresh scopes legal parts replied.
    gets_by_its_client g.P.Provides.plain_ask g.P.Provides.given_reply g.P.Provides.provided k past after before p access refresh scopes
    (answered_of g.P.Provides.plain_ask g.P.Provides.given_reply g.P.Provides.provided g.P.Provides.IsAsk k past legal) parts replied

pub returns-clause-others : goal.returns-clause-others
returns-clause-others g c = λ k past after before p f grant legal parts asked other stands.
    left_by_others g.P.Provides.plain_ask g.P.Provides.given_reply g.P.Provides.provided k past after before p f grant
    (answered_of g.P.Provides.plain_ask g.P.Provides.given_reply g.P.Provides.provided g.P.Provides.IsAsk k past legal) parts asked other stands
