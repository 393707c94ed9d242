use Rattle.op_request.proofs.RepeatedNames.{repeated_twice, twice_repeats}
use Rattle.op_request.proofs.law.repeated_names_are_refused.Goals as goal

pub returns-clause-twice : goal.returns-clause-twice
returns-clause-twice c = repeated_twice

pub returns-clause-cause : goal.returns-clause-cause
returns-clause-cause c = twice_repeats
