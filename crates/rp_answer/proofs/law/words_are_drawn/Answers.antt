use Rattle.sso_base.proofs.DrawnWords.{texts_tell_words}
use Rattle.rp_exchange.specs.Values.{IsRpAsk}
use Rattle.rp_answer.specs.Answering.{rp_answer}
use Rattle.rp_answer.proofs.Drawn.{logins_are_drawn}
use Rattle.rp_answer.proofs.Exchanges.{pendings_are_sent}
use Rattle.rp_answer.proofs.Sessions.{visits_are_drawn}
use Rattle.rp_answer.proofs.law.words_are_drawn.Goals as goal

pub returns-clause-logins : goal.returns-clause-logins
returns-clause-logins c = logins_are_drawn

pub returns-clause-pendings : goal.returns-clause-pendings
returns-clause-pendings c = pendings_are_sent

pub returns-clause-visits : goal.returns-clause-visits
returns-clause-visits c = visits_are_drawn

pub returns-clause-texts : goal.returns-clause-texts
returns-clause-texts c = λ s. texts_tell_words IsRpAsk (rp_answer s)
