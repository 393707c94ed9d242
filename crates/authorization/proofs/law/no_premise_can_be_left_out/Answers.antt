use Rattle.authorization.proofs.OwnToken.{not_without_secret_cookies, not_without_secret_access_tokens}
use Rattle.authorization.proofs.law.no_premise_can_be_left_out.Goals as goal

pub returns-clause-cookies : goal.returns-clause-cookies
returns-clause-cookies c = not_without_secret_cookies

pub returns-clause-access : goal.returns-clause-access
returns-clause-access c = not_without_secret_access_tokens
