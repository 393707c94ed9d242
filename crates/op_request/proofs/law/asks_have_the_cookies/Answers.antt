use Rattle.op_request.proofs.LedTo.{has_cookies}
use Rattle.op_request.proofs.law.asks_have_the_cookies.Goals as goal

pub returns : goal.returns
returns c = has_cookies
