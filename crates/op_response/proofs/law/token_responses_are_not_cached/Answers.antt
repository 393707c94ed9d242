use Rattle.op_response.proofs.ReplyLaws.{pragma_of_token_responses, token_responses_are_json, tokens_are_read}
use Rattle.op_response.proofs.law.token_responses_are_not_cached.Goals as goal

pub returns-clause-pragma : goal.returns-clause-pragma
returns-clause-pragma c = pragma_of_token_responses

pub returns-clause-json : goal.returns-clause-json
returns-clause-json c = token_responses_are_json

pub returns-clause-read : goal.returns-clause-read
returns-clause-read c = tokens_are_read
