use Rattle.claim_set.proofs.Fitting.{get_member-without, get_member-without_other}
use Rattle.claim_set.proofs.law.one_name_is_taken_out.Goals as goal

pub returns-clause-absent : goal.returns-clause-absent
returns-clause-absent c = λ k ms h. get_member-without k ms h.members

pub returns-clause-others : goal.returns-clause-others
returns-clause-others c = get_member-without_other
