use Rattle.token_endpoint.proofs.RoundTrip.{body_written}
use Rattle.token_endpoint.proofs.law.written_requests_have_their_text.Goals as goal

pub returns : goal.returns
returns c = body_written
