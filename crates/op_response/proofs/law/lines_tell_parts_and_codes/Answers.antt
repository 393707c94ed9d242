use Rattle.op_response.proofs.LineLaws.{parts_are_told, code_is_told}
use Rattle.op_response.proofs.law.lines_tell_parts_and_codes.Goals as goal

pub returns-clause-parts : goal.returns-clause-parts
returns-clause-parts c = parts_are_told

pub returns-clause-code : goal.returns-clause-code
returns-clause-code c = code_is_told
