use Rattle.id_token.proofs.Tokens.{answered_token, accepts_good}
use Rattle.id_token.proofs.reading.check_id.Goals as goal

pub returns-clause-token : goal.returns-clause-token
returns-clause-token c = answered_token c.args.key.now c.args.text.now c.checked.result c.checked.ensures.answers

pub returns-clause-accepts : goal.returns-clause-accepts
returns-clause-accepts c = accepts_good c.args.key.now c.args.text.now c.args.rules.now c.args.at c.checked.result c.checked.ensures.refuses
