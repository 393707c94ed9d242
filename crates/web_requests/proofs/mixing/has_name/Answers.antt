use Rattle.std.proofs.Common.{◌∙◌}
use Rattle.web_requests.proofs.Positions.{there_named}
use Rattle.web_requests.proofs.mixing.has_name.Goals as goal

pub returns : goal.returns
returns c = c.is_some.ensures ∙ there_named c.args.name.now c.args.pairs.now c.value_of.result c.value_of.ensures
