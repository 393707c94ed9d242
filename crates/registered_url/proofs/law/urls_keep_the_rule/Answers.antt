use Rattle.registered_url.proofs.Keeping.{urls_keep, kept_url}
use Rattle.registered_url.proofs.law.urls_keep_the_rule.Goals as goal

pub returns-clause-keeps : goal.returns-clause-keeps
returns-clause-keeps c = urls_keep

pub returns-clause-read : goal.returns-clause-read
returns-clause-read c = kept_url
