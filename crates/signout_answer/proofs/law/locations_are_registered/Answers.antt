use Rattle.std.proofs.Common.{reverse, Some}
use Rattle.signout_answer.proofs.Yes.{said_yes, was_allowed}
use Rattle.signout_answer.proofs.law.locations_are_registered.Goals as goal

pub returns : goal.returns
returns g c = λ s h before after p to r legal parts told.
    was_allowed s.own g.P.Provides.plain_ask before p to (said_yes s.own g.P.Provides.plain_ask g.P.Provides.IsAsk (reverse h) before after p (Some to) r legal.answered parts told)
