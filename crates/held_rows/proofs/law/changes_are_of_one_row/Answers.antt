use Rattle.held_rows.proofs.Changing.{length-changed, changed_none}
use Rattle.held_rows.proofs.RowOf.{row_of-changed, row_of-changed_other}
use Rattle.held_rows.proofs.law.changes_are_of_one_row.Goals as goal

pub returns-clause-row : goal.returns-clause-row
returns-clause-row g c = λ w change rows same. row_of-changed g.R.Row.name w change rows same

pub returns-clause-others : goal.returns-clause-others
returns-clause-others g c = λ w v change rows same other. row_of-changed_other g.R.Row.name w v change rows same other

pub returns-clause-places : goal.returns-clause-places
returns-clause-places g c = λ w change rows. length-changed g.R.Row.name w change rows

pub returns-clause-none : goal.returns-clause-none
returns-clause-none g c = λ w change rows none. changed_none g.R.Row.name w change rows none
