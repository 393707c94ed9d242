use Rattle.logout_token.proofs.Tokens.{IsLogoutToken-read, logout_read-IsLogoutToken}
use Rattle.logout_token.proofs.law.read_tokens_are_sealed_claims.Goals as goal

pub returns-clause-token : goal.returns-clause-token
returns-clause-token c = IsLogoutToken-read

pub returns-clause-read : goal.returns-clause-read
returns-clause-read c = logout_read-IsLogoutToken
