-- ID Tokens and logout tokens of a client: a text is read under the secret of the client that opens it.
use Rattle.std.specs.Prelude.{◌≡◌, true, Result}
use Rattle.sso_base.specs.Words.{Text}
use Rattle.client_registry.specs.declared.records.Client.{Client}
use Rattle.client_registry.specs.Secrets.{has_secret}
use Rattle.client_keys.specs.Opening.{opening}
use Rattle.id_token.specs.declared.claims.IdClaims.{IdClaims}
use Rattle.id_token.specs.declared.no.IdNo.{IdNo}
use Rattle.id_token.specs.Reading.{id_read}
use Rattle.id_token.specs.Token.{IsIdToken}
use Rattle.logout_token.specs.declared.claims.LogoutClaims.{LogoutClaims}
use Rattle.logout_token.specs.declared.no.LogoutNo.{LogoutNo}
use Rattle.logout_token.specs.LogoutToken.{logout_read}
use Rattle.logout_token.specs.Token.{IsLogoutToken}

-- the ID Token in a text of the client, or the first error that applies
abbrev pub id_read_for : Client → Text → Result IdClaims IdNo
id_read_for client t = id_read (opening client t) t

-- the text is an ID Token with these claims, under a secret of the client
pub record IsIdTokenFor (client : Client) (t : Text) (x : IdClaims) : Type 0 where
  pub secret : Text
  pub own : has_secret secret client ≡ true
  pub token : IsIdToken secret t x

-- the logout token in a text of the client, or why it is none
abbrev pub logout_read_for : Client → Text → Result LogoutClaims LogoutNo
logout_read_for client t = logout_read (opening client t) t

-- the text is a logout token with these claims, under a secret of the client
pub record IsLogoutTokenFor (client : Client) (t : Text) (x : LogoutClaims) : Type 0 where
  pub secret : Text
  pub own : has_secret secret client ≡ true
  pub token : IsLogoutToken secret t x
