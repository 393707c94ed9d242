use Rattle.rp_login.proofs.CallLaws.{seen_stays}
use Rattle.rp_login.proofs.law.seen_tokens_are_remembered.Goals as goal

pub returns : goal.returns
returns c = seen_stays
