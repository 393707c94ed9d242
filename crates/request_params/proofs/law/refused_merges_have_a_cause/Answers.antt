use Rattle.request_params.proofs.MergeLaws.{merge_refused, refused_merge}
use Rattle.request_params.proofs.law.refused_merges_have_a_cause.Goals as goal

pub returns-clause-cause : goal.returns-clause-cause
returns-clause-cause c = merge_refused

pub returns-clause-refused : goal.returns-clause-refused
returns-clause-refused c = refused_merge
