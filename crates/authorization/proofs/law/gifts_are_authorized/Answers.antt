use Rattle.authorization.proofs.Giving.{gives_by_right}
use Rattle.authorization.proofs.law.gifts_are_authorized.Goals as goal

pub returns : goal.returns
returns c = gives_by_right
