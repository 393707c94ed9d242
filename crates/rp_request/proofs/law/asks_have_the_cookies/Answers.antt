use Rattle.rp_request.proofs.Routing.{has_cookies}
use Rattle.rp_request.proofs.law.asks_have_the_cookies.Goals as goal

pub returns : goal.returns
returns c = has_cookies
