use Rattle.code_grant.proofs.SecondUses.{own_use, other_use, rest_stays}
use Rattle.code_grant.proofs.law.second_uses_end_the_tokens.Goals as goal

pub returns-clause-own : goal.returns-clause-own
returns-clause-own c = own_use

pub returns-clause-other : goal.returns-clause-other
returns-clause-other c = other_use

pub returns-clause-rest : goal.returns-clause-rest
returns-clause-rest c = rest_stays
