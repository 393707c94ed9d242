use Rattle.refresh_answer.proofs.Unchanged.{refused_stay}
use Rattle.refresh_answer.proofs.law.refused_requests_change_nothing.Goals as goal

pub returns : goal.returns
returns g c = λ past p grant code asked replied fresh.
    refused_stay g.P.Provides.plain_ask g.P.Provides.given_reply g.P.Provides.provided past p grant code asked replied fresh
