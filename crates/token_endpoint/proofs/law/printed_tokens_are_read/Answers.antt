use Rattle.token_endpoint.proofs.Responses.{written_read, words_read}
use Rattle.token_endpoint.proofs.law.printed_tokens_are_read.Goals as goal

pub returns-clause-texts : goal.returns-clause-texts
returns-clause-texts c = written_read

pub returns-clause-words : goal.returns-clause-words
returns-clause-words c = words_read
