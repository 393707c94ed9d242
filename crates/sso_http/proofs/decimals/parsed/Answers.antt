use Rattle.std.proofs.Common.{◌∙◌}
use Rattle.sso_http.proofs.Numbers.{number_told}
use Rattle.sso_http.proofs.decimals.parsed.Goals as goal

pub returns : goal.returns
returns c = c.unwrap_or.ensures ∙ number_told c.args.digits.now c.parse.result c.parse.ensures.value.0 c.requires
