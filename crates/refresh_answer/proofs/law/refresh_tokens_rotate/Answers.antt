use Rattle.refresh_answer.proofs.Answered.{answered_of}
use Rattle.refresh_answer.proofs.Current.{has_current}
use Rattle.refresh_answer.proofs.Once.{refreshed_once}
use Rattle.refresh_answer.proofs.law.refresh_tokens_rotate.Goals as goal

pub returns-clause-current : goal.returns-clause-current
returns-clause-current g c = λ k past at n f legal order live.
    has_current g.P.Provides.plain_ask g.P.Provides.given_reply g.P.Provides.provided k past
    (answered_of g.P.Provides.plain_ask g.P.Provides.given_reply g.P.Provides.provided g.P.Provides.IsAsk k past legal) at n f order live

pub returns-clause-once : goal.returns-clause-once
returns-clause-once g c = λ k past after between before p q w legal new parts one other.
    refreshed_once g.P.Provides.plain_ask g.P.Provides.given_reply g.P.Provides.provided k past after between before p q w
    (answered_of g.P.Provides.plain_ask g.P.Provides.given_reply g.P.Provides.provided g.P.Provides.IsAsk k past legal) new parts one other
