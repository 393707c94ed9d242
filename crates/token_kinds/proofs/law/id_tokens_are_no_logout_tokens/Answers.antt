use Rattle.token_kinds.proofs.Apart.{no_logout_token, read_id_no_logout_token, sealed_id_no_logout_token}
use Rattle.token_kinds.proofs.law.id_tokens_are_no_logout_tokens.Goals as goal

pub returns-clause-apart : goal.returns-clause-apart
returns-clause-apart c = no_logout_token

pub returns-clause-read : goal.returns-clause-read
returns-clause-read c = read_id_no_logout_token

pub returns-clause-sealed : goal.returns-clause-sealed
returns-clause-sealed c = sealed_id_no_logout_token
