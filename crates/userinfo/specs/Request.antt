-- UserInfo requests (OpenID Connect Core 1.0, 5.3.1; RFC 6750, 2.1).
use Rattle.std.specs.Prelude.{List, ℕ, ◌++◌, codes, Some, None}
use Rattle.sso_base.specs.declared.message.Message.{Message}

-- a GET to the endpoint, with the access token as bearer token
unfoldable pub info_message : List ℕ → List ℕ → Message
info_message endpoint access = record { to = endpoint; auth = Some (codes "Bearer " ++ access); body = None }
