-- The paths that the provider and a relying party serve (our choice, except that of the metadata). The provider's paths are
-- below the path of its issuer.
use Rattle.std.specs.Prelude.{codes}
use Rattle.sso_base.specs.Words.{Text}

-- ---- of the provider

-- the metadata (OpenID Connect Discovery 1.0, 4)
abbrev pub metadata_path : Text
metadata_path = codes "/.well-known/openid-configuration"

-- the keys (OpenID Connect Core 1.0, 10.1)
abbrev pub keys_path : Text
keys_path = codes "/jwks"

-- the authorization endpoint (OpenID Connect Core 1.0, 3.1.2)
abbrev pub authorize_path : Text
authorize_path = codes "/authorize"

-- the token endpoint (RFC 6749, 3.2)
abbrev pub token_path : Text
token_path = codes "/token"

-- the UserInfo endpoint (OpenID Connect Core 1.0, 5.3)
abbrev pub userinfo_path : Text
userinfo_path = codes "/userinfo"

-- where the login form is posted
abbrev pub login_path : Text
login_path = codes "/login"

-- where the consent form is posted
abbrev pub consent_path : Text
consent_path = codes "/consent"

abbrev pub signout_path : Text
signout_path = codes "/signout"

-- ---- of a relying party

abbrev pub home_path : Text
home_path = codes "/"

-- where a browser begins a login
abbrev pub begin_path : Text
begin_path = codes "/login"

abbrev pub leave_path : Text
leave_path = codes "/leave"
