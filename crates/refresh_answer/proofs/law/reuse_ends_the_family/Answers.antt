use Rattle.refresh_answer.proofs.Answered.{answered_of}
use Rattle.refresh_answer.proofs.Once.{no_refresh_after, no_info_after}
use Rattle.refresh_answer.proofs.law.reuse_ends_the_family.Goals as goal

pub returns-clause-tokens : goal.returns-clause-tokens
returns-clause-tokens g c = λ k past after between before p q f w legal new parts reuse token refreshed.
    no_refresh_after g.P.Provides.plain_ask g.P.Provides.given_reply g.P.Provides.provided k past after between before p q f w
    (answered_of g.P.Provides.plain_ask g.P.Provides.given_reply g.P.Provides.provided g.P.Provides.IsAsk k past legal) new parts reuse token refreshed

pub returns-clause-accesses : goal.returns-clause-accesses
returns-clause-accesses g c = λ k past after between before p q f w legal new parts reuse token info.
    no_info_after g.P.Provides.plain_ask g.P.Provides.given_reply g.P.Provides.provided k past after between before p q f w
    (answered_of g.P.Provides.plain_ask g.P.Provides.given_reply g.P.Provides.provided g.P.Provides.IsAsk k past legal) new parts reuse token info
