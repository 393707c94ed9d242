use Rattle.serde_json.proofs.Views.{get_member-put, get_member-put_other}
use Rattle.claim_set.proofs.law.one_name_is_put.Goals as goal

pub returns-clause-set : goal.returns-clause-set
returns-clause-set c = get_member-put

pub returns-clause-others : goal.returns-clause-others
returns-clause-others c = get_member-put_other
