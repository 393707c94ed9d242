use Rattle.op_answer.proofs.FullTables.{full_has_a_cause, cause_makes_full}
use Rattle.op_answer.proofs.law.full_tables_are_full.Goals as goal

pub returns : goal.returns
returns c = λ c past e. (full_has_a_cause c past e, cause_makes_full c past e)
