use Rattle.std.proofs.Common.{refl}
use Rattle.sso_http.proofs.law.whole_requests_are_read.Goals as goal

pub returns : goal.returns
returns c first second head body more ask r = record { head = head; body = body; given = refl; request = r }
