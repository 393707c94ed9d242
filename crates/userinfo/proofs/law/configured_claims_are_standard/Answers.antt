use Rattle.userinfo.proofs.Configured.{configured_are_standard, user_has_kinds, user_has_no_others}
use Rattle.userinfo.proofs.law.configured_claims_are_standard.Goals as goal

pub returns-clause-held : goal.returns-clause-held
returns-clause-held c = user_has_no_others

pub returns-clause-kind : goal.returns-clause-kind
returns-clause-kind c = user_has_kinds

pub returns-clause-configured : goal.returns-clause-configured
returns-clause-configured c = configured_are_standard
