use Rattle.configuration_rows.proofs.Order.{least_is, empty_least}
use Rattle.configuration_rows.proofs.Phases.{is_least}
use Rattle.configuration_rows.proofs.law.the_least_is_answered.Goals as goal

pub returns-clause-least : goal.returns-clause-least
returns-clause-least c = least_is

pub returns-clause-answered : goal.returns-clause-answered
returns-clause-answered c = is_least

pub returns-clause-none : goal.returns-clause-none
returns-clause-none c = empty_least
