use Rattle.sign_on.proofs.Founding.{founded}
use Rattle.sign_on.proofs.law.sessions_are_founded.Goals as goal

pub returns : goal.returns
returns c = founded
