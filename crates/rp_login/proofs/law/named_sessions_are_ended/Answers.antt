use Rattle.rp_login.proofs.NamedEnds.{meant_equals, equals_meant, meant_end, others_stay, order_stays, count_ends}
use Rattle.rp_login.proofs.law.named_sessions_are_ended.Goals as goal

pub returns-clause-meant : goal.returns-clause-meant
returns-clause-meant c = meant_equals

pub returns-clause-all_meant : goal.returns-clause-all_meant
returns-clause-all_meant c = equals_meant

pub returns-clause-ended : goal.returns-clause-ended
returns-clause-ended c = meant_end

pub returns-clause-others : goal.returns-clause-others
returns-clause-others c = others_stay

pub returns-clause-order : goal.returns-clause-order
returns-clause-order c = order_stays

pub returns-clause-count : goal.returns-clause-count
returns-clause-count c = count_ends
