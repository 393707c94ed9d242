use Rattle.auth_answer.proofs.Written.{refusal_read_back, refusal_any_state}
use Rattle.auth_answer.proofs.law.written_refusals_are_read.Goals as goal

pub returns-clause-read : goal.returns-clause-read
returns-clause-read c = refusal_read_back

pub returns-clause-any_state : goal.returns-clause-any_state
returns-clause-any_state c = refusal_any_state
