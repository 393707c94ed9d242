use Rattle.userinfo.proofs.Told.{claims_stand, wanted_is_held, unwanted_is_absent, unknown_is_absent}
use Rattle.userinfo.proofs.law.held_claims_are_wanted.Goals as goal

pub returns-clause-read : goal.returns-clause-read
returns-clause-read c = claims_stand

pub returns-clause-wanted : goal.returns-clause-wanted
returns-clause-wanted c = wanted_is_held

pub returns-clause-unwanted : goal.returns-clause-unwanted
returns-clause-unwanted c = unwanted_is_absent

pub returns-clause-standard : goal.returns-clause-standard
returns-clause-standard c = unknown_is_absent
