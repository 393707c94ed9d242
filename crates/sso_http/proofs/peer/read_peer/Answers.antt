use Rattle.std.proofs.Common.{sym}
use Rattle.sso_http.proofs.OnePeer.{no_answer}
use Rattle.sso_http.proofs.peer.read_peer.Goals as goal

pub returns-in_default-2-clause-none : goal.returns-in_default-2-clause-none
returns-in_default-2-clause-none c = no_answer _ _ _ _ c.in-Some.ensures.parts (let e = rw c.in_default-2.is at c.in_ok-body.ensures in sym e)
