use Rattle.token_kinds.proofs.Apart.{no_id_token, read_logout_no_id_token, sealed_logout_no_id_token}
use Rattle.token_kinds.proofs.law.logout_tokens_are_no_id_tokens.Goals as goal

pub returns-clause-apart : goal.returns-clause-apart
returns-clause-apart c = no_id_token

pub returns-clause-read : goal.returns-clause-read
returns-clause-read c = read_logout_no_id_token

pub returns-clause-sealed : goal.returns-clause-sealed
returns-clause-sealed c = sealed_logout_no_id_token
