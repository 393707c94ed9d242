use Rattle.login_request.proofs.Sealable.{short_of_rows}
use Rattle.login_request.proofs.asking.login_object.Goals as goal

pub request_for-requires : goal.request_for-requires
request_for-requires c = short_of_rows c.args.registry.now c.args.party c.args.issuer.now c.args.state.now c.args.nonce.now c.bounds_of.ensures _ _ c.client_row-client.ensures c.party_row-row.ensures
