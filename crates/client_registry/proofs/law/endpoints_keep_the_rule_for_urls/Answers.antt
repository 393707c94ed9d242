use Rattle.client_registry.proofs.Endpoints.{authorize_url, token_url, userinfo_url, keys_url}
use Rattle.client_registry.proofs.law.endpoints_keep_the_rule_for_urls.Goals as goal

pub returns-clause-authorize : goal.returns-clause-authorize
returns-clause-authorize c = authorize_url

pub returns-clause-token : goal.returns-clause-token
returns-clause-token c = token_url

pub returns-clause-userinfo : goal.returns-clause-userinfo
returns-clause-userinfo c = userinfo_url

pub returns-clause-keys : goal.returns-clause-keys
returns-clause-keys c = keys_url
