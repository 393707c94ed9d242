use Rattle.rp_answer.proofs.TokensOnce.{tokens_apart, tokens_once}
use Rattle.rp_answer.proofs.law.logout_tokens_are_accepted_once.Goals as goal

pub returns-clause-apart : goal.returns-clause-apart
returns-clause-apart c = tokens_apart

pub returns-clause-once : goal.returns-clause-once
returns-clause-once c = tokens_once
