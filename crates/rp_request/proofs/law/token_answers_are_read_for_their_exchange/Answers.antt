use Rattle.rp_request.proofs.TokenAnswers.{has_tokens, reads_tokens, refuses_tokens}
use Rattle.rp_request.proofs.law.token_answers_are_read_for_their_exchange.Goals as goal

pub returns-clause-read : goal.returns-clause-read
returns-clause-read c = λ configuration n pending w answer tokens id h. has_tokens configuration n pending answer w tokens id h

pub returns-clause-reads : goal.returns-clause-reads
returns-clause-reads c = reads_tokens

pub returns-clause-refuses : goal.returns-clause-refuses
returns-clause-refuses c = refuses_tokens
