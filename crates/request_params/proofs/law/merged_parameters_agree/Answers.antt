use Rattle.request_params.proofs.MergeLaws.{merged-is, is-merged}
use Rattle.request_params.proofs.law.merged_parameters_agree.Goals as goal

pub returns-clause-agree : goal.returns-clause-agree
returns-clause-agree c = merged-is

pub returns-clause-merged : goal.returns-clause-merged
returns-clause-merged c = is-merged
