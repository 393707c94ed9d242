use Rattle.request_params.proofs.NameLaws.{name_of-name_text, name_of_some, same_params, set_param, kept_param}
use Rattle.request_params.proofs.law.parameters_have_names.Goals as goal

pub returns-clause-named : goal.returns-clause-named
returns-clause-named c = name_of-name_text

pub returns-clause-written : goal.returns-clause-written
returns-clause-written c = name_of_some

pub returns-clause-same : goal.returns-clause-same
returns-clause-same c = same_params

pub returns-clause-set : goal.returns-clause-set
returns-clause-set c = set_param

pub returns-clause-kept : goal.returns-clause-kept
returns-clause-kept c = kept_param
