use Rattle.token_endpoint.specs.declared.no.TokensNo.TheVariants.{NoMemory}
use Rattle.token_endpoint.specs.Answer.{tokens_read, HasTokens}
use Rattle.sso_base.proofs.Answering.{if_answered, only_memory, only_answer}
use Rattle.token_endpoint.proofs.Responses.{read_has, has_read}
use Rattle.token_endpoint.proofs.reading.read_tokens.Goals as goal

pub returns-clause-tokens : goal.returns-clause-tokens
returns-clause-tokens c = if_answered (tokens_read c.args.answer.now) (HasTokens c.args.answer.now) (read_has c.args.answer.now) c.answered_tokens.result c.answered_tokens.ensures.ok

pub returns-clause-accepts : goal.returns-clause-accepts
returns-clause-accepts c = λ t h. only_memory NoMemory (tokens_read c.args.answer.now) t (has_read c.args.answer.now t h) c.answered_tokens.result c.answered_tokens.ensures.err

pub returns-clause-value : goal.returns-clause-value
returns-clause-value c = λ t h. only_answer (tokens_read c.args.answer.now) t (has_read c.args.answer.now t h) c.answered_tokens.result c.answered_tokens.ensures.ok
