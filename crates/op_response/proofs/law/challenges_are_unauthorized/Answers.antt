use Rattle.op_response.proofs.ReplyLaws.{status_of_challenges}
use Rattle.op_response.proofs.law.challenges_are_unauthorized.Goals as goal

pub returns : goal.returns
returns c = status_of_challenges
