use Rattle.rp_response.proofs.ReplyLaws.{refusal_is_its_line, logout_refusal_is_its_line, full_refusal_has_its_line, status_of_full, status_of_others}
use Rattle.rp_response.proofs.law.refusals_are_their_lines.Goals as goal

pub returns-clause-body : goal.returns-clause-body
returns-clause-body c = refusal_is_its_line

pub returns-clause-logout : goal.returns-clause-logout
returns-clause-logout c = logout_refusal_is_its_line

pub returns-clause-shown : goal.returns-clause-shown
returns-clause-shown c = full_refusal_has_its_line

pub returns-clause-full : goal.returns-clause-full
returns-clause-full c = status_of_full

pub returns-clause-others : goal.returns-clause-others
returns-clause-others c = status_of_others
