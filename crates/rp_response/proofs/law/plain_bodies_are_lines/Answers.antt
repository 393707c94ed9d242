use Rattle.rp_response.proofs.ReplyLaws.{plain_is_a_line, empty_has_no_body}
use Rattle.rp_response.proofs.law.plain_bodies_are_lines.Goals as goal

pub returns-clause-plain : goal.returns-clause-plain
returns-clause-plain c = plain_is_a_line

pub returns-clause-empty : goal.returns-clause-empty
returns-clause-empty c = empty_has_no_body
