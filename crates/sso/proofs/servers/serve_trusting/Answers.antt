use Rattle.sso.proofs.Told.{rp_told}
use Rattle.sso.proofs.servers.serve_trusting.Goals as goal

pub returns : goal.returns
returns g c = rp_told _ _ _ _ c.in_ok-ran.ran _ c.in_ok-ran.ensures.ran c.answer_server.ensures
