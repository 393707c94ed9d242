use Rattle.client_registry.proofs.Endpoints.{authorize_served, token_served, userinfo_served, keys_served}
use Rattle.client_registry.proofs.law.advertised_paths_are_served.Goals as goal

pub returns-clause-authorize : goal.returns-clause-authorize
returns-clause-authorize c = authorize_served

pub returns-clause-token : goal.returns-clause-token
returns-clause-token c = token_served

pub returns-clause-userinfo : goal.returns-clause-userinfo
returns-clause-userinfo c = userinfo_served

pub returns-clause-keys : goal.returns-clause-keys
returns-clause-keys c = keys_served
