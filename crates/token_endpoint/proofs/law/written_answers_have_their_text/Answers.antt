use Rattle.token_endpoint.proofs.Responses.{tokens_written, error_written}
use Rattle.token_endpoint.proofs.law.written_answers_have_their_text.Goals as goal

pub returns-clause-tokens : goal.returns-clause-tokens
returns-clause-tokens c = tokens_written

pub returns-clause-error : goal.returns-clause-error
returns-clause-error c = error_written
