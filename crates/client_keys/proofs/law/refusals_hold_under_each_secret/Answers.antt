use Rattle.client_keys.proofs.EachKey.{same_refusal}
use Rattle.client_keys.proofs.Opened.{bad_under_each, bad_for_client}
use Rattle.client_keys.proofs.law.refusals_hold_under_each_secret.Goals as goal

pub returns-clause-mac : goal.returns-clause-mac
returns-clause-mac c = bad_under_each

pub returns-clause-macs : goal.returns-clause-macs
returns-clause-macs c = bad_for_client

pub returns-clause-others : goal.returns-clause-others
returns-clause-others c = same_refusal
