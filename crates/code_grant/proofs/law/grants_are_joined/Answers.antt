use Rattle.code_grant.proofs.Granting.{granted_to-none, length-no_consents, granted_to-with_grant, granted_to-with_other, length-with_grant}
use Rattle.code_grant.proofs.law.grants_are_joined.Goals as goal

pub returns-clause-none : goal.returns-clause-none
returns-clause-none c = granted_to-none

pub returns-clause-room : goal.returns-clause-room
returns-clause-room c = length-no_consents

pub returns-clause-joined : goal.returns-clause-joined
returns-clause-joined c = granted_to-with_grant

pub returns-clause-others : goal.returns-clause-others
returns-clause-others c = granted_to-with_other

pub returns-clause-long : goal.returns-clause-long
returns-clause-long c = length-with_grant
