use Rattle.http_reply.proofs.Names.{taken}
use Rattle.http_reply.proofs.law.host_cookies_are_taken.Goals as goal

pub returns : goal.returns
returns c = taken
