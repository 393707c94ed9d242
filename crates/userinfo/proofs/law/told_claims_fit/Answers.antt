use Rattle.userinfo.proofs.Told.{held_fit, info_fit, held_length, info_length}
use Rattle.userinfo.proofs.law.told_claims_fit.Goals as goal

pub returns-clause-held : goal.returns-clause-held
returns-clause-held c = held_fit

pub returns-clause-info : goal.returns-clause-info
returns-clause-info c = info_fit

pub returns-clause-held_length : goal.returns-clause-held_length
returns-clause-held_length c = held_length

pub returns-clause-info_length : goal.returns-clause-info_length
returns-clause-info_length c = info_length
