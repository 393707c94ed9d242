use Rattle.honest_worlds.proofs.Needed.{needed}
use Rattle.honest_worlds.proofs.law.no_condition_can_be_left_out.Goals as goal

pub returns : goal.returns
returns c = needed
