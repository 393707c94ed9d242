use Rattle.sign_on.proofs.Bound.{is_bound}
use Rattle.sign_on.proofs.law.binding.Goals as goal

pub returns : goal.returns
returns c = is_bound
