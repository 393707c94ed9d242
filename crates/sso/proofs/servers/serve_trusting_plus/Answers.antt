use Rattle.sso.proofs.Told.{rp_plus_told}
use Rattle.sso.proofs.servers.serve_trusting_plus.Goals as goal

pub returns : goal.returns
returns g c = rp_plus_told _ _ _ _ c.in_ok-ran.ran _ c.in_ok-ran.ensures.ran c.answer_server.ensures
