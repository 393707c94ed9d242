use Rattle.op_answer.proofs.CodesOnce.{codes_are_answered_once}
use Rattle.op_answer.proofs.law.codes_are_answered_once.Goals as goal

pub returns : goal.returns
returns c = codes_are_answered_once
