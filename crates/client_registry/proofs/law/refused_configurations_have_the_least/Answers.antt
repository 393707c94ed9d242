use Rattle.client_registry.proofs.Causes.{too_long, not_toml, version, refused, accepted}
use Rattle.client_registry.proofs.law.refused_configurations_have_the_least.Goals as goal

pub returns-clause-too_long : goal.returns-clause-too_long
returns-clause-too_long c = too_long

pub returns-clause-not_toml : goal.returns-clause-not_toml
returns-clause-not_toml c = not_toml

pub returns-clause-version : goal.returns-clause-version
returns-clause-version c = version

pub returns-clause-refused : goal.returns-clause-refused
returns-clause-refused c = refused

pub returns-clause-accepted : goal.returns-clause-accepted
returns-clause-accepted c = accepted
