use Rattle.std.proofs.lemmas.Result.{IfOk-weaker}
use Rattle.login_request.proofs.Asked.{location_of}
use Rattle.login_request.proofs.asking.login_request.Goals as goal

pub returns : goal.returns
returns c = IfOk-weaker c.print_request.result _ _ (λ t at. location_of _ _ c.args.provider.now c.args.state.now c.args.nonce.now _ t c.in_ok-params.ensures at) c.print_request.ensures
