use Rattle.sso.proofs.Told.{op_told}
use Rattle.sso.proofs.servers.serve_provider.Goals as goal

pub returns : goal.returns
returns g c = op_told _ _ _ _ c.in_ok-ran.ran _ c.in_ok-ran.ensures.ran c.answer_server.ensures
