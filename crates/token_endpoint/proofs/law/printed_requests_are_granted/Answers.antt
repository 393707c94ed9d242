use Rattle.token_endpoint.proofs.RoundTrip.{printed_granted}
use Rattle.token_endpoint.proofs.law.printed_requests_are_granted.Goals as goal

pub returns : goal.returns
returns c = printed_granted
