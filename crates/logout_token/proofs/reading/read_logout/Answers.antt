use Rattle.logout_token.proofs.Tokens.{answered_token, accepts_token}
use Rattle.logout_token.proofs.reading.read_logout.Goals as goal

pub returns-clause-token : goal.returns-clause-token
returns-clause-token c = answered_token c.args.key.now c.args.text.now c.opened.result c.opened.ensures.answers

pub returns-clause-accepts : goal.returns-clause-accepts
returns-clause-accepts c = accepts_token c.args.key.now c.args.text.now c.opened.result c.opened.ensures.refuses
