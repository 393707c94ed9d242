use Rattle.auth_request.proofs.NamedSubjects.{subjects_are_there, subjects_are_named, subjects_are_filled}
use Rattle.auth_request.proofs.law.named_subjects_are_kept.Goals as goal

pub returns-clause-there : goal.returns-clause-there
returns-clause-there c = subjects_are_there

pub returns-clause-named : goal.returns-clause-named
returns-clause-named c = subjects_are_named

pub returns-clause-subjects : goal.returns-clause-subjects
returns-clause-subjects c = subjects_are_filled
