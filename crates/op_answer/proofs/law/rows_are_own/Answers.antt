use Rattle.op_answer.proofs.OwnRows.{turns_are_own, sessions_are_own, codes_are_own, tokens_are_own, last_is_moment}
use Rattle.op_answer.proofs.law.rows_are_own.Goals as goal

pub returns-clause-turns : goal.returns-clause-turns
returns-clause-turns c = turns_are_own

pub returns-clause-sessions : goal.returns-clause-sessions
returns-clause-sessions c = sessions_are_own

pub returns-clause-codes : goal.returns-clause-codes
returns-clause-codes c = codes_are_own

pub returns-clause-accesses : goal.returns-clause-accesses
returns-clause-accesses c = tokens_are_own

pub returns-clause-last : goal.returns-clause-last
returns-clause-last c = last_is_moment
