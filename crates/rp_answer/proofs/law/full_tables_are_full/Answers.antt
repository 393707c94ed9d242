use Rattle.rp_answer.proofs.FullTables.{full_has_a_cause, cause_makes_full}
use Rattle.rp_answer.proofs.law.full_tables_are_full.Goals as goal

pub returns : goal.returns
returns c = λ s past e found. (full_has_a_cause s past e found, cause_makes_full s past e found)
