use Rattle.logout_token.proofs.Good.{good_before}
use Rattle.logout_token.proofs.law.good_tokens_are_remembered.Goals as goal

pub returns : goal.returns
returns c = good_before
