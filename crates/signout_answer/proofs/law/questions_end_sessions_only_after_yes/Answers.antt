use Rattle.std.proofs.Common.{reverse}
use Rattle.signout_answer.proofs.Yes.{said_yes}
use Rattle.signout_answer.proofs.SignOuts.{nothing_added}
use Rattle.signout_answer.proofs.law.questions_end_sessions_only_after_yes.Goals as goal

pub returns-clause-yes : goal.returns-clause-yes
returns-clause-yes g c = λ s h before after p back r legal parts told.
    said_yes s.own g.P.Provides.plain_ask g.P.Provides.IsAsk (reverse h) before after p back r legal.answered parts told

pub returns-clause-otherwise : goal.returns-clause-otherwise
returns-clause-otherwise g c = λ h own. nothing_added g.P.Provides.provided h own
