use Rattle.rp_answer.proofs.FewDeads.{few_deads}
use Rattle.rp_answer.proofs.law.dead_sids_are_few.Goals as goal

pub returns : goal.returns
returns c = few_deads
