-- A text of a client is read as an ID Token, or as a logout token, if and only if it is one under a secret of the client.
use Rattle.std.proofs.Common.{◌≡◌, true, Ok}
use Rattle.sso_base.specs.Words.{Text}
use Rattle.client_registry.specs.declared.records.Client.{Client}
use Rattle.client_registry.specs.Secrets.{has_secret}
use Rattle.client_keys.specs.Opening.{opening}
use Rattle.client_keys.proofs.Opened.{opening_is_own, reads_alike}
use Rattle.id_token.specs.declared.claims.IdClaims.{IdClaims}
use Rattle.id_token.specs.Reading as id_token
use Rattle.id_token.proofs.Tokens.{id_read-token, token-id_read}
use Rattle.logout_token.specs.declared.claims.LogoutClaims.{LogoutClaims}
use Rattle.logout_token.specs.LogoutToken as logout_token
use Rattle.logout_token.proofs.Tokens.{IsLogoutToken-read, logout_read-IsLogoutToken}
use Rattle.rp_request.specs.Opened.{id_read_for, IsIdTokenFor, logout_read_for, IsLogoutTokenFor}

-- ---- ID Tokens

-- what a secret of the client reads, the client reads
pub id_alike : (client : Client) (k t : Text) (x : IdClaims) → has_secret k client ≡ true → id_token.id_read k t ≡ Ok x → id_read_for client t ≡ Ok x
unfolding id_token.id_read
id_alike client k t x own h = reads_alike _ _ client k t x own h

pub id_read_for-token : (client : Client) (t : Text) (x : IdClaims) → id_read_for client t ≡ Ok x → IsIdTokenFor client t x
id_read_for-token client t x h = record { secret = opening client t; own = opening_is_own client t; token = id_read-token (opening client t) t x h }

pub token-id_read_for : (client : Client) (t : Text) (x : IdClaims) → IsIdTokenFor client t x → id_read_for client t ≡ Ok x
token-id_read_for client t x i = id_alike client i.secret t x i.own (token-id_read i.secret t x i.token)

-- ---- logout tokens

-- what a secret of the client reads, the client reads
pub logout_alike : (client : Client) (k t : Text) (x : LogoutClaims) → has_secret k client ≡ true → logout_token.logout_read k t ≡ Ok x → logout_read_for client t ≡ Ok x
unfolding logout_token.logout_read
logout_alike client k t x own h = reads_alike _ _ client k t x own h

pub logout_read_for-token : (client : Client) (t : Text) (x : LogoutClaims) → logout_read_for client t ≡ Ok x → IsLogoutTokenFor client t x
logout_read_for-token client t x h = record { secret = opening client t; own = opening_is_own client t; token = IsLogoutToken-read (opening client t) t x h }

pub token-logout_read_for : (client : Client) (t : Text) (x : LogoutClaims) → IsLogoutTokenFor client t x → logout_read_for client t ≡ Ok x
token-logout_read_for client t x i = logout_alike client i.secret t x i.own (logout_read-IsLogoutToken i.secret t x i.token)
