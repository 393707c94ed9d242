use Rattle.authorization.proofs.Reaching.{reaches_its_own, infos_reach_their_own}
use Rattle.authorization.proofs.law.answers_reach_their_own.Goals as goal

pub returns-clause-answers : goal.returns-clause-answers
returns-clause-answers c = reaches_its_own

pub returns-clause-infos : goal.returns-clause-infos
returns-clause-infos c = infos_reach_their_own
