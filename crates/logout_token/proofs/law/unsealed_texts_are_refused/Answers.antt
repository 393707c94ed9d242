use Rattle.logout_token.proofs.Unsealed.{unsealed_refused, unsealed_reason, read_is_sealed}
use Rattle.logout_token.proofs.law.unsealed_texts_are_refused.Goals as goal

pub returns-clause-unsealed : goal.returns-clause-unsealed
returns-clause-unsealed c = unsealed_refused

pub returns-clause-reason : goal.returns-clause-reason
returns-clause-reason c = unsealed_reason

pub returns-clause-sealed : goal.returns-clause-sealed
returns-clause-sealed c = read_is_sealed
