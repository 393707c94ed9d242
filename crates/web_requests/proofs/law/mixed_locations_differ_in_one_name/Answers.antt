use Rattle.web_requests.proofs.MixedForms.{value_mixed, others_kept, receiver_kept, mixed_where}
use Rattle.web_requests.proofs.law.mixed_locations_differ_in_one_name.Goals as goal

pub returns-clause-value : goal.returns-clause-value
returns-clause-value c = value_mixed

pub returns-clause-others : goal.returns-clause-others
returns-clause-others c = others_kept

pub returns-clause-receiver : goal.returns-clause-receiver
returns-clause-receiver c = receiver_kept

pub returns-clause-exactly : goal.returns-clause-exactly
returns-clause-exactly c = mixed_where
