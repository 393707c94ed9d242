use Rattle.sso_http.proofs.SentReplies.{sent}
use Rattle.sso_http.proofs.law.written_replies_are_read.Goals as goal

pub returns : goal.returns
returns c r s = sent r s
