use Rattle.rp_response.proofs.LineLaws.{session_tells, user_tells, code_is_told}
use Rattle.rp_response.proofs.law.lines_tell_subjects_and_codes.Goals as goal

pub returns-clause-session : goal.returns-clause-session
returns-clause-session c = session_tells

pub returns-clause-user : goal.returns-clause-user
returns-clause-user c = user_tells

pub returns-clause-code : goal.returns-clause-code
returns-clause-code c = code_is_told
