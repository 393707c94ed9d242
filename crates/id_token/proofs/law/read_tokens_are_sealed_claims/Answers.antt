use Rattle.id_token.proofs.Tokens.{id_read-token, token-id_read}
use Rattle.id_token.proofs.law.read_tokens_are_sealed_claims.Goals as goal

pub returns-clause-token : goal.returns-clause-token
returns-clause-token c = id_read-token

pub returns-clause-read : goal.returns-clause-read
returns-clause-read c = token-id_read
