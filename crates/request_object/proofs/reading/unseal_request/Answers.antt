use Rattle.request_object.proofs.Objects.{answered_object, accepts_object}
use Rattle.request_object.proofs.reading.unseal_request.Goals as goal

pub returns-clause-object : goal.returns-clause-object
returns-clause-object c = answered_object c.args.client.now c.args.issuer.now c.args.text.now c.opened.result c.opened.ensures.answers

pub returns-clause-accepts : goal.returns-clause-accepts
returns-clause-accepts c = accepts_object c.args.client.now c.args.issuer.now c.args.text.now c.opened.result c.opened.ensures.refuses
