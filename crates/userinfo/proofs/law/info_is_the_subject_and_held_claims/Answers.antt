use Rattle.userinfo.proofs.Told.{subject_is_told, wanted_is_told, unwanted_is_untold}
use Rattle.userinfo.proofs.law.info_is_the_subject_and_held_claims.Goals as goal

pub returns-clause-subject : goal.returns-clause-subject
returns-clause-subject c = subject_is_told

pub returns-clause-wanted : goal.returns-clause-wanted
returns-clause-wanted c = wanted_is_told

pub returns-clause-unwanted : goal.returns-clause-unwanted
returns-clause-unwanted c = unwanted_is_untold
