use Rattle.op_answer.proofs.Drawn.{turns_are_drawn, sessions_are_drawn, codes_are_drawn, accesses_are_drawn}
use Rattle.op_answer.proofs.law.rows_have_drawn_words.Goals as goal

pub returns-clause-turns : goal.returns-clause-turns
returns-clause-turns c = turns_are_drawn

pub returns-clause-sessions : goal.returns-clause-sessions
returns-clause-sessions c = sessions_are_drawn

pub returns-clause-codes : goal.returns-clause-codes
returns-clause-codes c = codes_are_drawn

pub returns-clause-accesses : goal.returns-clause-accesses
returns-clause-accesses c = accesses_are_drawn
