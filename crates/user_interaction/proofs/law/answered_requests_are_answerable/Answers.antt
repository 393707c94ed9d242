use Rattle.user_interaction.proofs.Needing.{nobody_is_answered, answered_is_answerable, answerable_is_answered}
use Rattle.user_interaction.proofs.law.answered_requests_are_answerable.Goals as goal

pub returns-clause-session : goal.returns-clause-session
returns-clause-session c = nobody_is_answered

pub returns-clause-answerable : goal.returns-clause-answerable
returns-clause-answerable c = answered_is_answerable

pub returns-clause-answered : goal.returns-clause-answered
returns-clause-answered c = answerable_is_answered
