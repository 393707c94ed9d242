use Rattle.code_grant.proofs.Redemptions.{redeemed_is_spent, calls_keep, spent_is_refused, redeemed_once}
use Rattle.code_grant.proofs.law.codes_are_redeemed_once.Goals as goal

pub returns-clause-spent : goal.returns-clause-spent
returns-clause-spent c = redeemed_is_spent

pub returns-clause-stays : goal.returns-clause-stays
returns-clause-stays c = calls_keep

pub returns-clause-refused : goal.returns-clause-refused
returns-clause-refused c = spent_is_refused

pub returns-clause-once : goal.returns-clause-once
returns-clause-once c = redeemed_once
