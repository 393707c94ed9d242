use Rattle.userinfo.proofs.BearerHeaders.{printed_is_read}
use Rattle.userinfo.proofs.law.printed_requests_are_read.Goals as goal

pub returns : goal.returns
returns c = printed_is_read
