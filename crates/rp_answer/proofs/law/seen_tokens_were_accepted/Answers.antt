use Rattle.rp_answer.proofs.Accepted.{seens_are_accepted}
use Rattle.rp_answer.proofs.law.seen_tokens_were_accepted.Goals as goal

pub returns : goal.returns
returns c = seens_are_accepted
