use Rattle.sso_http.proofs.OnePeer.{one_peer}
use Rattle.sso_http.proofs.law.peers_have_one_answer.Goals as goal

pub returns : goal.returns
returns c = one_peer
