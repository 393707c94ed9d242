use Rattle.client_registry.proofs.Causes.{too_long_only, not_toml_only, version_only, least_only, accepted_only}
use Rattle.client_registry.proofs.law.refusals_have_their_causes.Goals as goal

pub returns-clause-too_long : goal.returns-clause-too_long
returns-clause-too_long c = too_long_only

pub returns-clause-not_toml : goal.returns-clause-not_toml
returns-clause-not_toml c = not_toml_only

pub returns-clause-version : goal.returns-clause-version
returns-clause-version c = version_only

pub returns-clause-refused : goal.returns-clause-refused
returns-clause-refused c = least_only

pub returns-clause-accepted : goal.returns-clause-accepted
returns-clause-accepted c = accepted_only
