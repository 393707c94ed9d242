use Rattle.honest_places.proofs.OwnWish.{own_wish_granted}
use Rattle.honest_places.proofs.law.own_requests_are_granted.Goals as goal

pub returns : goal.returns
returns c = own_wish_granted
